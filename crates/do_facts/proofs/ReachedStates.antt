-- What each step keeps holds of every state that a machine comes to.
use Rattle.std.proofs.Common.{List, [], ◌∷◌}
use Rattle.do_base.specs.declared.events.event.Event.{Event}
use Rattle.do_class.specs.Class.{Class}
use Rattle.do_machine.specs.declared.state.{Seat.Seat, State.State, Stepped.Stepped}
use Rattle.do_machine.specs.{Commit.skipped, Step.step, World.opening}
use Rattle.do_machine.specs.{check.Blocks.{followed, steps}, run.Run.Acting}
use Rattle.do_facts.specs.Reached.{reached}

module _ (table : List Class) (act : Acting) (P : State → Type 0)
    (keeps : (S : State) (event : Event) → P S → P (step table act S event).state) where
  -- events, one after another
  after_events : (events : List Event) (s : Stepped) → P s.state →
      P (steps table act events s).state
  after_events [] s h = h
  after_events (e ∷ es) s h =
      after_events es (followed s (step table act s.state e)) (keeps s.state e h)

  -- every state that is reached from an opening of which it holds
  pub holds_of_reached : (seats : List Seat) (events : List Event) → P (opening table seats) →
      P (reached table act seats events)
  holds_of_reached seats events h = after_events events (skipped (opening table seats)) h
