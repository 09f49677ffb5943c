-- What the parts of items say of foreign objects.
use Rattle.do_machine.specs.declared.item.Item.TheVariants as items
use Rattle.do_facts.specs.links.Links as seen_as
use Rattle.do_facts.specs.nodes.Atoms as parts
use Rattle.std.{proofs.Common.{◌≡◌, ◌++◌, List, [], ◌∷◌, map, refl, ap, ◌+◌}, specs.List.flat_map}
use Rattle.do_class.specs.declared.packet.Name.{Name}
use Rattle.do_machine.specs.declared.item.Item.{Item}
use Rattle.do_facts.specs.{links.Links.name_atoms, nodes.Atoms.{Atom, Body, Named, Target, Whole}}

-- what an item says of foreign objects beside its message
abbrev pub whole_atoms : Item → List seen_as.Atom
whole_atoms (items.Ask serial token) = seen_as.Ask serial token ∷ []
whole_atoms (items.Granted serial token) = seen_as.Granted serial token ∷ []
whole_atoms (items.Gone serial token) = seen_as.Gone serial token ∷ []
whole_atoms (items.Left serial) = seen_as.Left serial ∷ []
whole_atoms (items.Settled number) = seen_as.Settled number ∷ []
whole_atoms (items.End serials) = seen_as.End serials ∷ []
whole_atoms _ = []

-- what a part of an item says of foreign objects
abbrev pub link_atoms : Atom → List seen_as.Atom
link_atoms (Target serial) = seen_as.Yours serial ∷ []
link_atoms (Body packet) = []
link_atoms (Named name) = name_atoms name
link_atoms (Whole item) = whole_atoms item

-- what the names of a message say, and then an item that says nothing beside
names_seen : (ns : List Name) (item : Item) → whole_atoms item ≡ [] →
    flat_map link_atoms (map Named ns ++ Whole item ∷ []) ≡ flat_map name_atoms ns
names_seen [] item h = ap (λ xs. xs ++ []) h
names_seen (x ∷ ns) item h = ap (λ xs. name_atoms x ++ xs) (names_seen ns item h)

-- what an item says
pub item_seen : (item : Item) → flat_map link_atoms (parts.atoms item) ≡ seen_as.atoms item
item_seen (items.Call number m) =
    ap (λ xs. seen_as.Yours m.target ∷ xs)
    (names_seen m.packet.names (items.Call number m) refl)
item_seen (items.Oneway m) =
    ap (λ xs. seen_as.Yours m.target ∷ xs) (names_seen m.packet.names (items.Oneway m) refl)
item_seen (items.Reply number packet) =
    names_seen packet.names (items.Reply number packet) refl
item_seen (items.RootAnswer number packet) =
    names_seen packet.names (items.RootAnswer number packet) refl
item_seen _ = refl
