-- What the parts of items say of calls.
use Rattle.do_machine.specs.declared.item.Item.TheVariants as items
use Rattle.do_facts.specs.calls.Calls as seen_as
use Rattle.do_facts.specs.nodes.Atoms as parts
use Rattle.std.proofs.Common.{◌≡◌, ◌++◌, List, [], ◌∷◌, map, refl, append-nil}
use Rattle.std.specs.List.{flat_map}
use Rattle.do_class.specs.declared.packet.Name.{Name}
use Rattle.do_machine.specs.declared.item.Item.{Item}
use Rattle.do_facts.specs.nodes.Atoms.{Atom, Named, Whole}

-- what a part of an item says of calls
abbrev pub call_atoms : Atom → List seen_as.Atom
call_atoms (Whole item) = seen_as.atoms item
call_atoms _ = []

-- the names of a message say nothing
names_seen : (ns : List Name) (item : Item) →
    flat_map call_atoms (map Named ns ++ Whole item ∷ []) ≡ seen_as.atoms item
names_seen [] item = append-nil (seen_as.atoms item)
names_seen (x ∷ ns) item = names_seen ns item

-- what an item says
pub item_seen : (item : Item) → flat_map call_atoms (parts.atoms item) ≡ seen_as.atoms item
item_seen (items.Call number m) = names_seen m.packet.names (items.Call number m)
item_seen (items.Oneway m) = names_seen m.packet.names (items.Oneway m)
item_seen (items.Reply number packet) = names_seen packet.names (items.Reply number packet)
item_seen (items.RootAnswer number packet) =
    names_seen packet.names (items.RootAnswer number packet)
item_seen _ = refl
