-- What the parts of an item that is taken have, where a frame can bring it.
use Rattle.do_machine.specs.declared.item.Item.TheVariants as items
use Rattle.std.{proofs.Common.{◌++◌, ℕ, List, [], ◌∷◌, map, subst, sym}, specs.List.AllByRecursion}
use Rattle.do_class.specs.{Class.Class, declared.packet.{Name.Name, Packet.Packet}}
use Rattle.do_machine.specs.declared.item.Item.{Item}
use Rattle.do_facts.specs.{Net.noted, nodes.Atoms.{Atom, Body, Named, Whole, atoms, packet_atoms}}
use Rattle.do_facts.proofs.{EachOfLists.each_joined, nodes.{Kept.AllNotes, Walks.noted_behind}}
use Rattle.do_limits.specs.Sendable.{IsReadablePacket, NameIsSendable}
use Rattle.do_limits.specs.SendableStates.{ItemIsReadable}

module _ (table : List Class) (port : ℕ) where
  -- a part of an item that comes from a peer
  abbrev pub Comes : ℕ → Atom → Type 0
  Comes from (Body packet) = IsReadablePacket table from port packet
  Comes from (Named name) = NameIsSendable table from port name
  Comes from (Whole item) = ItemIsReadable table from port item
  Comes from _ = Unit {0}

  -- the names of a message
  names_come : (from : ℕ) (names : List Name) →
      AllByRecursion (NameIsSendable table from port) names →
      AllNotes Comes (noted from (map Named names))
  names_come from [] h = tt
  names_come from (x ∷ names) h = (h.0, names_come from names h.1)

  -- a message, and the item that it is of
  packet_comes : (from : ℕ) (p : Packet) (item : Item) → IsReadablePacket table from port p →
      ItemIsReadable table from port item →
      AllNotes Comes (noted from (packet_atoms p ++ Whole item ∷ []))
  packet_comes from p item h k =
      subst (AllNotes Comes) (sym (noted_behind from (packet_atoms p) (Whole item ∷ [])))
      (each_joined (λ x. Comes x.peer x.atom) (noted from (packet_atoms p)) _
      (h, names_come from p.names h.names) (k, tt))

  -- an item that a frame can bring
  pub item_comes : (from : ℕ) (item : Item) → ItemIsReadable table from port item →
      AllNotes Comes (noted from (atoms item))
  item_comes from (items.Call number m) h =
      (tt, packet_comes from m.packet (items.Call number m) h.packet h)
  item_comes from (items.Oneway m) h =
      (tt, packet_comes from m.packet (items.Oneway m) h.packet h)
  item_comes from (items.Reply number p) h = packet_comes from p (items.Reply number p) h h
  item_comes from (items.RootAnswer number p) h =
      packet_comes from p (items.RootAnswer number p) h h
  item_comes from _ h = (h, tt)
