-- What holds of the parts of items that are sent holds of the items.
use Rattle.do_machine.specs.declared.item.Item.TheVariants as items
use Rattle.std.{proofs.Common.{◌++◌, ℕ, List, [], ◌∷◌}, specs.List.AllByRecursion}
use Rattle.do_machine.specs.declared.{item.Item.Item, state.Parcel.Parcel}
use Rattle.do_facts.specs.{Net.noted, View.posted, nodes.Atoms.{Atom, Whole, atoms, packet_atoms}}
use Rattle.do_facts.specs.nodes.View.{nodes}
use Rattle.do_facts.proofs.{EachOfLists.{each_former, each_latter}, nodes.Kept.AllNotes}

module _ (E : ℕ → Item → Type 0) where
  -- a part of an item that goes to a peer: all that is said of it is said of the whole
  abbrev pub Goes : ℕ → Atom → Type 0
  Goes to (Whole item) = E to item
  Goes to _ = Unit {0}

  -- the item of which these are the parts
  whole_goes : (to : ℕ) (parts : List Atom) (item : Item) →
      AllNotes Goes (noted to (parts ++ Whole item ∷ [])) → E to item
  whole_goes to [] item h = h.0
  whole_goes to (x ∷ parts) item h = whole_goes to parts item h.1

  -- an item of which all parts go
  item_goes : (to : ℕ) (item : Item) → AllNotes Goes (noted to (atoms item)) → E to item
  item_goes to (items.Call number m) h =
      whole_goes to (packet_atoms m.packet) (items.Call number m) h.1
  item_goes to (items.Oneway m) h = whole_goes to (packet_atoms m.packet) (items.Oneway m) h.1
  item_goes to (items.Reply number p) h = whole_goes to (packet_atoms p) (items.Reply number p) h
  item_goes to (items.RootAnswer number p) h =
      whole_goes to (packet_atoms p) (items.RootAnswer number p) h
  item_goes to _ h = h.0

  -- parcels of which all parts go
  pub parcels_go : (sent : List Parcel) → AllNotes Goes (posted nodes sent) →
      AllByRecursion (λ p. E p.to p.item) sent
  parcels_go [] h = tt
  parcels_go (p ∷ sent) h =
      let mine = noted p.to (atoms p.item) in
      let rest = posted nodes sent in (
        item_goes p.to p.item (each_former (λ x. Goes x.peer x.atom) mine rest h),
        parcels_go sent (each_latter (λ x. Goes x.peer x.atom) mine rest h),
      )
