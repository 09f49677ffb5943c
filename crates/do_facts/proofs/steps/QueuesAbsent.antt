-- Where there is no queue, no step makes one.
use Rattle.std.{proofs.Common.{◌≡◌, ℕ, List, arith}, specs.Prelude.None}
use Rattle.do_base.specs.declared.events.event.Event.{Event}
use Rattle.do_class.specs.Class.{Class}
use Rattle.do_machine.specs.{declared.state.{State.State, Stepped.Stepped}, State.queue}
use Rattle.do_machine.specs.run.Run.{Acting}
use Rattle.do_facts.{proofs.machine.Queues.{queue_behind, queue_with}, specs.steps.IsStep.IsStep}
use Rattle.std.proofs.lemmas.Grind.{common_steps}
use Rattle.do_facts.proofs.machine.{follows.{Moves.Moves, Steps.by_form}, passing.Linked.Any}

module _ (from to : ℕ) where
  -- there is no queue
  abbrev IsAbsent : State → Type 0
  IsAbsent T = queue T from to ≡ None

  -- no move makes one
  absent_moves : Moves Any (λ S T. IsAbsent S → IsAbsent T)
  absent_moves = record {
    same = λ S h. h;
    after = λ S T U a b h. b (a h);
    commits = λ port e S n here g h. grind (arith, h, queue_behind port from to e S.stations);
    requeues = λ a b items S h.
        grind (arith, common_steps, h, queue_with a b items from to S.stations);
  }

  -- no step makes one
  pub absent_stays : {table : List Class} {act : Acting} (S : State) (event : Event)
      (s : Stepped) → IsStep table act S event s → IsAbsent S → IsAbsent s.state
  absent_stays {table} {act} S =
      by_form Any (λ S T. IsAbsent S → IsAbsent T) absent_moves (λ n m f. tt) table act S
      (λ n m g. tt)
