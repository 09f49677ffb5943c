-- When a network is the one machine in a state.
use Rattle.std.specs.Prelude.{Bool, List, ℕ, ◌≡◌}
use Rattle.do_base.specs.declared.events.event.Event.{Event}
use Rattle.do_class.specs.Class.{Class}
use Rattle.do_machine.specs.{declared.state.{Seat.Seat, State.State}, Lists.some_passes, State.node}
use Rattle.do_machine.specs.{Step.step, World.IsWorld, run.Run.Acting, take.Take.can_take}
use Rattle.do_trace.specs.declared.outcome.Outcome.{Outcome}
use Rattle.do_facts.specs.Reached.{reached}
use Rattle.do_network.specs.Net.{Net}
use Rattle.do_agreement.specs.Agrees.{Agrees}

-- A network stands for a state of the one machine: some events lead to it from the opening of a
-- world, and the network agrees with it.
pub record StandsFor (table : List Class) (act : Acting) (N : Net) (S : State) : Type 0 where
  pub seats : List Seat
  pub world : IsWorld table seats
  pub events : List Event
  pub comes : S ≡ reached table act seats events
  pub agrees : Agrees table N S

-- An event that was told of a network is told of the one machine in a state alike, and the network
-- then stands for the state after it.
pub record StepsAsOne (table : List Class) (act : Acting) (S : State) (event : Event)
    (told : Outcome) (after : Net) : Type 0 where
  pub outcome : told ≡ (step table act S event).outcome
  pub stands : StandsFor table act after (step table act S event).state

-- a node of the one machine can take what another sends it
abbrev pub machine_can_take : State → ℕ → ℕ → Bool
machine_can_take S port from = some_passes (can_take from) (node S port)
