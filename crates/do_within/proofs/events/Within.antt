-- What is promised of each event.
use Rattle.std.{proofs.Common.{ℕ, List}, specs.Prelude.suc}
use Rattle.do_base.specs.declared.events.event.Event.{Event}
use Rattle.do_class.specs.Class.{Class}
use Rattle.do_machine.specs.{declared.state.State.State, Step.step, run.Run.Acting}
use Rattle.do_network.specs.{Net.Net, Spelled.SendsSpelled, Step.net_step}
use Rattle.do_within.{specs.Received.ReceivedWithin, proofs.sent.Effects.WaitsSpelled}

-- An event sends what has a spelling, and leaves few objects received
pub record EventWithin (table : List Class) (act : Acting) (events : ℕ) (N : Net) (event : Event) :
    Type 0 where
  pub sends : SendsSpelled table act N event
  pub received : ReceivedWithin (suc events) (net_step table act N event).net

-- what waits in the machine after an event has a spelling
abbrev pub AfterSpelled : List Class → Acting → State → Event → Type 0
AfterSpelled table act S event =
    (port : ℕ) → WaitsSpelled table port (step table act S event).state
