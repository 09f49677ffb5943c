-- Over every schedule a network comes to what the machine comes to.
use Rattle.std.proofs.Common.{List, [], ◌∷◌}
use Rattle.do_base.specs.declared.events.event.Event.{Event}
use Rattle.do_class.specs.{Class.Class, Table.IsTable}
use Rattle.do_machine.specs.{declared.state.{Seat.Seat, State.State}, Step.step, World.opening}
use Rattle.do_machine.specs.run.Run.{Acting}
use Rattle.do_network.specs.{Net.{Net, net_opening}, Step.net_step}
use Rattle.do_agreement.specs.Along.{ComesToTheSame, EventsSendSpelled}
use Rattle.do_agreement.proofs.agreement.GoesOn.{Goes, goes_on, opening_goes}

module _ (table : List Class) (t : IsTable table) (act : Acting) where
  -- from a network that agrees
  along : (events : List Event) (N : Net) (S : State) → Goes table N S →
      EventsSendSpelled table act N events → ComesToTheSame table act N S events
  along [] N S g spelled = g.agrees
  along (event ∷ events) N S g spelled =
      let s = goes_on table t act N S g event spelled.0 in (
        s.0,
        along events (net_step table act N event).net (step table act S event).state s.1 spelled.1,
      )

  -- from the opening
  pub schedule_agrees : (seats : List Seat) (events : List Event) →
      EventsSendSpelled table act (net_opening table seats) events →
      ComesToTheSame table act (net_opening table seats) (opening table seats) events
  schedule_agrees seats events spelled =
      along events (net_opening table seats) (opening table seats) (opening_goes table seats)
      spelled
