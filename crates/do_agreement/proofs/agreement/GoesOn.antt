-- A network that agrees with a state goes on agreeing, event by event.
use Rattle.do_facts.proofs.calls.ReachedCalls as calls_kept
use Rattle.do_facts.proofs.links.ReachedLinks as links_kept
use Rattle.std.proofs.Common.{◌≡◌, List}
use Rattle.do_base.specs.declared.events.event.Event.{Event}
use Rattle.do_class.specs.{Class.Class, Table.IsTable}
use Rattle.do_machine.specs.{declared.state.{Seat.Seat, State.State}, Step.step, World.opening}
use Rattle.do_machine.specs.run.Run.{Acting}
use Rattle.do_network.specs.{Net.{Net, net_opening}, Spelled.SendsSpelled, Step.net_step}
use Rattle.do_facts.specs.{calls.Facts.CallsAreKept, links.LinksAreKept.LinksAreKept}
use Rattle.do_facts.proofs.steps.NodesAtHome.{AllAtHome, opening_home, step_home}
use Rattle.do_agreement.specs.Agrees.{Agrees, StepAgrees}
use Rattle.do_agreement.proofs.agreement.{OpeningAgrees.opening_agrees, StepsAgree.step_agrees}
use Rattle.do_agreement.proofs.told.{ClassesKept.ClassesKept, ClassesOfSteps.step_keeps}
use Rattle.do_agreement.proofs.told.OpeningClasses.{opening_keeps}

-- a network agrees with a state of which what every reached state keeps is so
pub record Goes (table : List Class) (N : Net) (S : State) : Type 0 where
  pub agrees : Agrees table N S
  pub links : LinksAreKept S
  pub calls : CallsAreKept S
  pub classes : ClassesKept S
  pub home : AllAtHome S

-- an event comes to the same in both, and they go on so
pub goes_on : (table : List Class) → IsTable table → (act : Acting) (N : Net) (S : State) →
    Goes table N S → (event : Event) →
    SendsSpelled table act N event →
    ((net_step table act N event).outcome ≡ (step table act S event).outcome)
    × Goes table (net_step table act N event).net (step table act S event).state
goes_on table t act N S g event spelled =
    let s : StepAgrees table (net_step table act N event) (step table act S event) =
    step_agrees table t act N S g.agrees g.links g.calls g.classes.told event spelled in (
      s.outcome,
      record {
        agrees = s.agrees;
        links = links_kept.step_keeps table act S event g.links;
        calls = calls_kept.step_keeps table act S event g.calls;
        classes = step_keeps table act S g.classes g.links g.home event;
        home = step_home table act S event g.home;
      },
    )

-- both open so
pub opening_goes : (table : List Class) (seats : List Seat) →
    Goes table (net_opening table seats) (opening table seats)
opening_goes table seats = record {
  agrees = opening_agrees table seats;
  links = links_kept.opening_keeps table seats;
  calls = calls_kept.opening_keeps table seats;
  classes = opening_keeps table seats;
  home = opening_home table seats;
}
