-- Every event keeps a network in agreement with the state.
use Rattle.std.proofs.Common.{List, refl}
use Rattle.do_base.specs.declared.events.event.Event.{Event, TheVariants.{Check, Close, Lose, Run}}
use Rattle.do_base.specs.declared.events.event.Event.TheVariants.{Start, Take, Timeout}
use Rattle.do_class.specs.{Class.Class, Table.IsTable}
use Rattle.do_machine.specs.{declared.state.State.State, Step.step, run.Run.Acting}
use Rattle.do_network.specs.{Net.Net, Spelled.SendsSpelled, Step.net_step}
use Rattle.do_facts.specs.{calls.Facts.CallsAreKept, links.LinksAreKept.LinksAreKept}
use Rattle.do_agreement.specs.{Agrees.{Agrees, StepAgrees}, Classed.ClassesAreTold}
use Rattle.do_agreement.proofs.acts.ActEvents.{close_agrees, run_agrees, start_agrees}
use Rattle.do_agreement.proofs.{acts.ActEvents.timeout_agrees, losses.LossEvents.loss_event}
use Rattle.do_agreement.proofs.takes.TakeSteps.{take_event}

module _ (table : List Class) (t : IsTable table) (act : Acting) (N : Net) (S : State)
    (agrees : Agrees table N S) (kept : LinksAreKept S) (calls : CallsAreKept S)
    (told : ClassesAreTold S) where
  -- every event
  pub step_agrees : (event : Event) →
      SendsSpelled table act N event →
      StepAgrees table (net_step table act N event) (step table act S event)
  step_agrees (Start port selector values) spelled =
      start_agrees table act N S agrees kept told port selector values spelled
  step_agrees (Run port) spelled = run_agrees table act N S agrees kept told port spelled
  step_agrees (Take port from) spelled =
      take_event table t act N S agrees kept calls told port from spelled
  step_agrees (Close port peer) spelled =
      close_agrees table act N S agrees kept told port peer spelled
  step_agrees (Lose from to after) spelled =
      loss_event table act N S agrees kept told from to after
  step_agrees (Timeout port) spelled = timeout_agrees table act N S agrees kept told port spelled
  step_agrees Check spelled = record { agrees = agrees; outcome = refl }
