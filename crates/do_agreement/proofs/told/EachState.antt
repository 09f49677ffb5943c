-- In every state that a machine comes to, classes are told.
use Rattle.do_facts.proofs.links.ReachedLinks as links_kept
use Rattle.std.proofs.Common.{List}
use Rattle.do_base.specs.declared.events.event.Event.{Event}
use Rattle.do_class.specs.Class.{Class}
use Rattle.do_machine.specs.{declared.state.{Seat.Seat, State.State}, Step.step, run.Run.Acting}
use Rattle.do_facts.specs.{Reached.reached, links.LinksAreKept.LinksAreKept}
use Rattle.do_facts.proofs.ReachedStates.{holds_of_reached}
use Rattle.do_facts.proofs.steps.NodesAtHome.{AllAtHome, opening_home, step_home}
use Rattle.do_agreement.{specs.Classed.ClassesAreTold, proofs.told.ClassesKept.ClassesKept}
use Rattle.do_agreement.proofs.told.{ClassesOfSteps.step_keeps, OpeningClasses.opening_keeps}

-- What a step keeps together: classes are told, and links and nodes stand as they should
pub record AllKept (S : State) : Type 0 where
  pub classes : ClassesKept S
  pub links : LinksAreKept S
  pub home : AllAtHome S

module _ (table : List Class) (act : Acting) where
  -- a step keeps all
  all_kept : (S : State) (event : Event) → AllKept S → AllKept (step table act S event).state
  all_kept S event all = record {
    classes = step_keeps table act S all.classes all.links all.home event;
    links = links_kept.step_keeps table act S event all.links;
    home = step_home table act S event all.home;
  }

-- every state
pub reached_all : (table : List Class) (act : Acting) (seats : List Seat) (events : List Event) →
    AllKept (reached table act seats events)
reached_all table act seats events =
    holds_of_reached table act AllKept (all_kept table act) seats events (record {
      classes = opening_keeps table seats;
      links = links_kept.opening_keeps table seats;
      home = opening_home table seats;
    })

-- so each tells classes
pub reached_told : (table : List Class) (act : Acting) (seats : List Seat) (events : List Event) →
    ClassesAreTold (reached table act seats events)
reached_told table act seats events = (reached_all table act seats events).classes.told
