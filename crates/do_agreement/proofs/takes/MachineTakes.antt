-- What the machine does where a node takes the oldest item of a queue.
use Rattle.std.proofs.Common.{◌≡◌, ℕ, true, cond, not, List, ◌∷◌, drop, ap, ◌∙◌}
use Rattle.std.specs.Prelude.{None, Option, Some, slice_get, unwrap_or}
use Rattle.do_base.specs.declared.events.event.Event.TheVariants.{Take}
use Rattle.do_class.specs.Class.{Class}
use Rattle.do_machine.specs.declared.{item.Item.Item, node.Node.Node, state.State.State}
use Rattle.do_machine.specs.{declared.state.Stepped.Stepped, Commit.{moved, skipped}}
use Rattle.do_machine.specs.{Context.context, State.{change, node, queue, with_queue}, Step.step}
use Rattle.do_machine.specs.{run.Run.Acting, take.Take.{can_take, take_effect}}

module _ (table : List Class) (S : State) (port from : ℕ) where
  -- the state with these items left in the queue
  abbrev pub left : List Item → State
  left w = change from (with_queue port w) S

  -- what the machine does with a queue
  abbrev pub machine_from : Node → Option (List Item) → Option Stepped
  machine_from n found = elim found [
    | None ↦ None
    | Some w ↦ elim (slice_get w 0) [
      | None ↦ None
      | Some item ↦ Some (moved port (left (drop 1 w))
          (take_effect (context table (left (drop 1 w)) n) from item))
    ]
  ]

  -- and with a node
  abbrev pub machine_by : Option Node → Option Stepped
  machine_by found = elim found [
    | None ↦ None
    | Some n ↦ cond (not (can_take from n)) None (machine_from n (queue S from port))
  ]

  -- a take of an item that waits is the move by what the item comes to
  pub take_moves : (act : Acting) (n : Node) (item : Item) (rest : List Item) →
      node S port ≡ Some n → can_take from n ≡ true → queue S from port ≡ Some (item ∷ rest) →
      step table act S (Take port from)
      ≡ moved port (left rest) (take_effect (context table (left rest) n) from item)
  take_moves act n item rest here able waits =
      ap (λ found. unwrap_or (machine_by found) (skipped S)) here
      ∙ ap (λ b. unwrap_or (cond (not b) None (machine_from n (queue S from port))) (skipped S))
      able
      ∙ ap (λ found. unwrap_or (machine_from n found) (skipped S)) waits
