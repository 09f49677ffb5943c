-- Where schedules lead, and the objects that are stored there.
use Rattle.std.specs.Prelude.{List, Option, [], option_and_then, ◌∷◌}
use Rattle.do_base.specs.{names.Names.ObjectName, declared.events.event.Event.Event}
use Rattle.do_class.specs.Class.{Class}
use Rattle.do_machine.specs.declared.{node.Stored.Stored, state.{Seat.Seat, State.State}}
use Rattle.do_machine.specs.{State.{node, stored}, Step.step, World.opening, run.Run.Acting}

-- the state after events, one after another
abbrev pub after : List Class → Acting → State → List Event → State
after table act S [] = S
after table act S (event ∷ events) = after table act (step table act S event).state events

-- the state to which events lead from the opening
abbrev pub reached : List Class → Acting → List Seat → List Event → State
reached table act seats events = after table act (opening table seats) events

-- the stored object of a name
abbrev pub object_of : State → ObjectName → Option Stored
object_of S o = option_and_then (λ n. stored o.serial n.heap) (node S o.node)
