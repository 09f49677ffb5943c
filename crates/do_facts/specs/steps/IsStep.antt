-- What one event comes to.
use Rattle.do_base.specs.declared.events.event.Event.TheVariants as events
use Rattle.do_machine.specs.declared.item.Item.TheVariants as items
use Rattle.std.specs.{Prelude.{List, Some, [], length, true, ℕ, ◌∷◌, ◌≡◌, ◌≤◌}, List.insert}
use Rattle.do_base.specs.declared.events.event.Event.{Event}
use Rattle.do_class.specs.Class.{Class}
use Rattle.do_machine.specs.declared.{item.Item.Item, node.Node.Node, state.Effect.Effect}
use Rattle.do_machine.specs.declared.state.{State.State, Stepped.Stepped}
use Rattle.do_machine.specs.{Commit.{moved, showed, skipped}, Context.context, Start.start_effect}
use Rattle.do_machine.specs.{State.{change, is_open, node, queue, with_queue}, ends.Closing.closing}
use Rattle.do_machine.specs.{ends.TimeOut.time_out, run.Run.{Acting, run_effect}}
use Rattle.do_machine.specs.take.Take.{take_effect}

-- by the event the node of a port acts, and takes nothing
abbrev pub IsActOf : ℕ → Event → Type 0
IsActOf port (events.Start actor selector values) = actor ≡ port
IsActOf port (events.Run actor) = actor ≡ port
IsActOf port (events.Close actor peer) = actor ≡ port
IsActOf port (events.Timeout actor) = actor ≡ port
IsActOf port _ = ⊥

-- the state once these are left of a queue
abbrev pub without_oldest : State → ℕ → ℕ → List Item → State
without_oldest S from port rest = change from (with_queue port rest) S

-- by its rule for the event a node has this effect, and takes nothing
abbrev pub IsRuleOf : List Class → Acting → State → Event → Node → Effect → Type 0
IsRuleOf table act S (events.Start port selector values) n e =
    start_effect table selector values n ≡ Some e
IsRuleOf table act S (events.Run port) n e = run_effect act (context table S n) ≡ Some e
IsRuleOf table act S (events.Close port peer) n e = (is_open n peer ≡ true) × (e ≡ closing peer n)
IsRuleOf table act S (events.Timeout port) n e = time_out n ≡ Some e
IsRuleOf table act S _ n e = ⊥

-- a node that takes an item over an open end has this effect
abbrev pub IsTakeOf : List Class → State → Node → ℕ → Item → Effect → Type 0
IsTakeOf table T n from item e =
    (is_open n from ≡ true) × (e ≡ take_effect (context table T n) from item)

-- what an event comes to in a state
pub data IsStep (table : List Class) (act : Acting) (S : State) (event : Event) (s : Stepped) :
    Type 0 where
  -- it is skipped
  Skips : s ≡ skipped S → IsStep table act S event s
  -- its node moves, by the effect of the event's rule and by what it frees and leaves then
  Acts : (port : ℕ) → (n : Node) → (e : Effect) → IsActOf port event → node S port ≡ Some n →
      IsRuleOf table act S event n e → s ≡ moved port S e → IsStep table act S event s
  -- its node takes the oldest item of one queue over an open end, and moves so
  Takes : (port : ℕ) → (from : ℕ) → (n : Node) → (item : Item) → (rest : List Item) →
      (e : Effect) → event ≡ events.Take port from → node S port ≡ Some n →
      IsTakeOf table (without_oldest S from port rest) n from item e →
      queue S from port ≡ Some (item ∷ rest) → s ≡ moved port (without_oldest S from port rest) e →
      IsStep table act S event s
  -- an end that names nothing is put into one queue
  Loses : (from : ℕ) → (to : ℕ) → (after : ℕ) → (waiting : List Item) →
      event ≡ events.Lose from to after → queue S from to ≡ Some waiting →
      after ≤ length waiting →
      s ≡ showed [] (change from (with_queue to (insert waiting after (items.End []))) S) →
      IsStep table act S event s
  -- it is a check, and the state stays
  Checks : event ≡ events.Check → s ≡ showed [] S → IsStep table act S event s
