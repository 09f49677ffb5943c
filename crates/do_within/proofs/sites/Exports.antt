-- How often a node has received objects, once it took an item and once it moved.
use Rattle.do_machine.specs.declared.item.Item.TheVariants as items
use Rattle.std.proofs.Common.{◌≡◌, ◌==◌, ◌+◌, ◌≤◌, ℕ, Bool, true, false, cond, List, [], ◌∷◌}
use Rattle.std.{proofs.Common.{filter, length, map, arith}, specs.Prelude.{suc, ◌*◌}}
use Rattle.std.proofs.lemmas.List.{length-map}
use Rattle.do_base.specs.names.Names.{ObjectName}
use Rattle.do_class.specs.{Class.Class, declared.packet.Packet.Packet}
use Rattle.do_export.specs.Counts.{count_of}
use Rattle.do_machine.specs.declared.{item.Item.Item, state.Effect.Effect}
use Rattle.do_machine.specs.Items.{Naming, exported, is_exported, name_naming, packet_names}
use Rattle.do_packet.specs.Limits.{most_names}
use Rattle.do_network.specs.{Counting.counted, Own.Own, Site.site_move}
use Rattle.do_network.specs.fits.Notes.{Note, exports_of}
use Rattle.do_limits.specs.SendableStates.{ItemIsSendable}
use Rattle.do_agreement.specs.{InHand.in_hand, Tallies.left_after}
use Rattle.do_agreement.proofs.hands.InHandCounts.{received_in_hand}
use Rattle.do_within.{specs.Received.CountsWithin, proofs.sent.Moves.received_less}

-- those that pass are no more than all
filter_few : {X : Type 0} (test : X → Bool) (xs : List X) → length (filter test xs) ≤ length xs
filter_few test [] = omega arith
filter_few test (x ∷ xs) = go (test x) (filter_few test xs)
  where
    go : (b : Bool) → length (filter test xs) ≤ length xs →
        length (cond b (x ∷ filter test xs) (filter test xs)) ≤ suc (length xs)
    go true e = omega (arith, e)
    go false e = omega (arith, e)

-- a message exports no more objects than it names
packet_few : (from to : ℕ) (p : Packet) → length p.names ≤ most_names →
    length (map (λ (x : Naming). x.object)
    (filter (λ (x : Naming). is_exported x.role) (packet_names from to p))) ≤ most_names
packet_few from to p h =
    let passing = filter (λ (x : Naming). is_exported x.role) (packet_names from to p) in
    omega (
      arith,
      h,
      length-map passing (λ (x : Naming). x.object),
      filter_few (λ (x : Naming). is_exported x.role) (packet_names from to p),
      length-map p.names (name_naming from to),
    )

-- an item that is within the limits exports no more objects than a message may name
exports_few : (table : List Class) (a m from to : ℕ) (item : Item) →
    ItemIsSendable table a m item → length (exported from to item) ≤ most_names
exports_few table a m from to (items.Call k x) h =
    packet_few from to x.packet h.packet.read.limits.names
exports_few table a m from to (items.Oneway x) h =
    packet_few from to x.packet h.packet.read.limits.names
exports_few table a m from to (items.Reply k p) h = packet_few from to p h.read.limits.names
exports_few table a m from to (items.RootAnswer k p) h = packet_few from to p h.read.limits.names
exports_few table a m from to (items.End serials) h = none serials
  where
    none : (xs : List ℕ) → length (exported from to (items.End xs)) ≤ most_names
    none [] = omega arith
    none (x ∷ xs) = none xs
exports_few table a m from to _ h = omega arith

-- with an item in hand
pub hand_within : (table : List Class) (a m from : ℕ) (x : Note) (p : Own) →
    ItemIsSendable table a m x.item → (events : ℕ) → CountsWithin events p.received →
    CountsWithin (suc events) (in_hand from x p).received
hand_within table a m from x p ok events within home serial =
    more (home == from) (received_in_hand from p x home serial)
  where
    exports : ℕ
    exports = exports_of from p.node.port serial x

    few : exports ≤ most_names
    few = omega (
      arith,
      filter_few (λ (o : ObjectName). o.serial == serial) (exported from p.node.port x.item),
      exports_few table a m from p.node.port x.item ok,
    )

    more : (b : Bool) {c : ℕ} → c ≡ count_of p.received home serial + cond b exports 0 →
        c ≤ most_names * suc events
    more true e = omega (arith, e, few, within home serial)
    more false e = omega (arith, e, within home serial)

-- a site that moves
pub moved_within : (p : Own) (e : Effect) (events : ℕ) → CountsWithin events p.received →
    CountsWithin events (site_move p e).own.received
moved_within p e events within home serial =
    omega (
      arith,
      within home serial,
      received_less p e home serial,
      received_less (counted p e) (left_after p e) home serial,
    )

-- later
pub later_within : (p : Own) (events : ℕ) → CountsWithin events p.received →
    CountsWithin (suc events) p.received
later_within p events within home serial = omega (arith, within home serial)
