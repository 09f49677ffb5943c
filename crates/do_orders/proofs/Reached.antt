-- What holds of every state that a machine comes to, as far as orders of inputs need it.
use Rattle.std.proofs.Common.{◌≡◌, List, [], ◌∷◌, ◌++◌, refl, sym, ap, ◌∙◌, subst}
use Rattle.do_base.specs.declared.events.event.Event.{Event}
use Rattle.do_class.specs.Class.{Class}
use Rattle.do_machine.specs.{Commit.skipped, Step.step, World.opening}
use Rattle.do_machine.specs.{check.Blocks.{followed, steps}, declared.state.Seat.Seat}
use Rattle.do_machine.specs.{declared.state.{State.State, Stepped.Stepped}, run.Run.Acting}
use Rattle.do_facts.specs.{Reached.reached, laws.{Entries.HasQueues, Follows.AllHoldOpen}}
use Rattle.do_facts.proofs.{ReachedStates.holds_of_reached, machine.Opening.opening_holds}
use Rattle.do_facts.proofs.machine.follows.Every.{all_hold, grow_steps}
use Rattle.do_facts.proofs.machine.passing.Linked.{opening_queues, queues_stay}
use Rattle.do_facts.proofs.steps.NodesAtHome.{AllAtHome, opening_home, step_home}
use Rattle.do_weave.specs.{Orders.{IsReached, at_opening, by_event}, Rules.Rules}
use Rattle.do_orders.proofs.LedBack.{LedBack, opening_led, step_led}

-- What every step keeps: nodes stand at their ports, hold over open ends, and each end that is open
-- has its queues
pub record StandsWell (S : State) : Type 0 where
  pub held : AllHoldOpen S
  pub queues : HasQueues S
  pub led : LedBack S
  pub home : AllAtHome S

-- a machine opens so
opening_stands : (table : List Class) (seats : List Seat) → StandsWell (opening table seats)
opening_stands table seats = record {
  held = opening_holds table seats;
  queues = opening_queues table seats;
  led = opening_led table seats;
  home = opening_home table seats;
}

-- each step keeps it
step_stands : (table : List Class) (act : Acting) (S : State) (event : Event) → StandsWell S →
    StandsWell (step table act S event).state
step_stands table act S event well = record {
  held = all_hold S (step table act S event).state (grow_steps table act S event) well.held;
  queues = queues_stay table act S event well.queues;
  led = step_led table act S event well.led;
  home = step_home table act S event well.home;
}

-- one event more
one_more : (table : List Class) (act : Acting) (events : List Event) (event : Event)
    (s : Stepped) → (steps table act (events ++ event ∷ []) s).state
    ≡ (step table act (steps table act events s).state event).state
one_more table act [] event s = refl
one_more table act (e ∷ events) event s =
    one_more table act events event (followed s (step table act s.state e))

module _ (R : Rules) (seats : List Seat) where
  -- a state that is reached is one to which events lead
  pub by_events : (S : State) → IsReached R seats S →
      (events : List Event) × (S ≡ reached R.table R.act seats events)
  by_events _ at_opening = ([], refl)
  by_events _ (by_event S event there) =
      let was = by_events S there in (
        was.0 ++ event ∷ [],
        ap (λ (T : State). (step R.table R.act T event).state) was.1
            ∙ sym (one_more R.table R.act was.0 event (skipped (opening R.table seats))),
      )

  -- every reached state stands well
  pub reached_stands : (S : State) → IsReached R seats S → StandsWell S
  reached_stands S there =
      let was = by_events S there in
      subst StandsWell (sym was.1) (holds_of_reached R.table R.act StandsWell
      (step_stands R.table R.act) seats was.0 (opening_stands R.table seats))
