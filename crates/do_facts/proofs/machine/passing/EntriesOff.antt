-- The entries of a node's objects once another node took an item off, and before it held what came.
use Rattle.std.proofs.Common.{◌≡◌, ◌==◌, ◌&&◌, ◌||◌, ℕ, Bool, true, false, List, ◌∷◌, refl, sym, ap}
use Rattle.std.{proofs.Common.{◌∙◌, arith}, specs.{Prelude.Some, List.list_any}}
use Rattle.std.proofs.lemmas.{Bool.eqb-true, Grind.common_steps}
use Rattle.do_base.specs.names.Names.{ObjectName}
use Rattle.do_packet.specs.Met.{has_object}
use Rattle.do_machine.specs.Entry.{has_entry, is_holder, is_on_its_way_back, is_reached}
use Rattle.do_machine.specs.{Entry.is_under_way, Items.exported, Lists.some_passes}
use Rattle.do_machine.specs.State.{change, is_open, node, queue, with_queue}
use Rattle.do_machine.specs.declared.{item.Item.Item, node.Node.Node, state.State.State}
use Rattle.do_facts.proofs.machine.follows.States.{requeued}
use Rattle.do_facts.proofs.machine.passing.Commits.{Entered, entered_none}
use Rattle.do_facts.proofs.machine.passing.Lookups.{elsewhere_stays, other_stays, that_changed}
use Rattle.do_facts.proofs.machine.{passing.Takes.comes, follows.Follows.open_at}

module _ (o : ObjectName) (port : ℕ) (apart : (o.node == port) ≡ false) (S : State) (n : Node)
    (here : node S port ≡ Some n) (from : ℕ) (item : Item) (w : List Item)
    (waits : queue S from port ≡ Some (item ∷ w)) where
  -- the state without the item
  abbrev pub left_off : State
  left_off = change from (with_queue port w) S

  -- what came was under way
  came_from : (b : Bool) → (from == o.node) ≡ b →
      ((b && has_object (exported from port item) o) || is_under_way left_off port o)
      ≡ is_under_way S port o
  came_from false h =
      let other : (o.node == from) ≡ false = grind (arith, common_steps, h) in
      ap (λ found. some_passes (list_any (λ x. has_object (exported o.node port x) o)) found)
      (elsewhere_stays from port w S.stations o.node port other)
  came_from true h =
      let same : o.node ≡ from = sym (eqb-true from o.node h) in
      let left = that_changed from port w (item ∷ w) S.stations waits in
      rw (same, left, waits)

  -- an open end towards the sender is open towards the home of what came
  pub reaches : is_open n from ≡ true → comes port o from item ≡ true →
      is_open n o.node ≡ true
  reaches ends h = open_at n from o.node ends (grind (arith, h))

  -- the node's own entry, with what came
  pub own_off : Entered port o apart left_off n (comes port o from item) ≡ has_entry S port o
  own_off =
      rw (
        requeued from port o.node w S.stations,
        other_stays from port w S.stations port o.node
            apart,
      )
      (ap (λ b. is_reached S port o && ((is_holder o n || b) || is_on_its_way_back S port o))
      (came_from (from == o.node) refl)
      ∙ entered_none port o apart S n here)

  -- entries of other peers
  pub others_off : (peer : ℕ) → (peer == port) ≡ false →
      has_entry left_off peer o ≡ has_entry S peer o
  others_off peer h =
      rw (
        requeued from port o.node w S.stations,
        requeued from port peer w S.stations,
        other_stays from port w S.stations o.node peer h,
        other_stays from port w S.stations peer
            o.node apart,
      )
