-- By which steps the entries of a node may change.
use Rattle.do_base.specs.declared.events.event.Event.TheVariants as events
use Rattle.std.specs.Prelude.{None, Some, false, ℕ, ◌==◌, ◌≡◌}
use Rattle.do_base.specs.declared.events.event.Event.{Event}
use Rattle.do_machine.specs.declared.{node.Node.Node, state.State.State}
use Rattle.do_machine.specs.State.{is_open, node, queue}

-- a node's end is closed towards each port to which it has no queue
pub record HasQueues (S : State) : Type 0 where
  pub closed : (port peer : ℕ) (n : Node) → node S port ≡ Some n → queue S port peer ≡ None →
      is_open n peer ≡ false

-- the event is no step of the node of a port
abbrev pub IsNoStepOf : ℕ → Event → Type 0
IsNoStepOf port (events.Start actor selector values) = (port == actor) ≡ false
IsNoStepOf port (events.Run actor) = (port == actor) ≡ false
IsNoStepOf port (events.Take actor from) = (port == actor) ≡ false
IsNoStepOf port (events.Close actor peer) = (port == actor) ≡ false
IsNoStepOf port (events.Timeout actor) = (port == actor) ≡ false
IsNoStepOf port (events.Lose from to after) = Unit {0}
IsNoStepOf port events.Check = Unit {0}
