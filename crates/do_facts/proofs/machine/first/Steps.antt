-- Where no call was given up, each event but a time-out does what the rules of version 1 say.
use Rattle.std.proofs.Common.{◌≡◌, ℕ, not, List, refl, ap, cond}
use Rattle.std.specs.Prelude.{None, Some, drop, slice_get, unwrap_or}
use Rattle.do_base.specs.declared.events.event.Event.{Event, TheVariants.{Close, Take, Timeout}}
use Rattle.do_class.specs.Class.{Class}
use Rattle.do_machine.specs.{declared.state.State.State, Commit.{moved, skipped}, Context.context}
use Rattle.do_machine.specs.State.{change, is_open, node, queue, with_queue}
use Rattle.do_machine.specs.Step.{close, step, take}
use Rattle.do_facts.specs.laws.Follows.{Follows, IsNoTimeOut}
use Rattle.do_facts.specs.laws.first.Step.{AllOnTime, IsOnTime, close_1, step_1, take_1}
use Rattle.do_machine.specs.{run.Run.Acting, take.Take.can_take}
use Rattle.do_facts.proofs.machine.{Version1.same_closing, first.Takes.same_take_effect}
use Rattle.do_facts.proofs.{machine.follows.Every.{all_passed, follow_steps}, Chains.found_same}

module _ (table : List Class) (S : State) (on_time : AllOnTime S) (port from : ℕ) where
  -- a take
  same_take : take table S port from ≡ take_1 table S port from
  same_take =
      found_same (node S port) None _ _ (λ n here.
      ap (λ x. cond (not (can_take from n)) None x)
      (found_same (queue S from port) None _ _ (λ w _.
      found_same (slice_get w 0) None _ _ (λ x _.
      let T = change from (with_queue port (drop 1 w)) S in
      ap (λ e. Some (moved port T e))
      (same_take_effect (context table T n) from x (on_time.each port n here))))))

  -- a close
  same_close : close S port from ≡ close_1 S port from
  same_close =
      found_same (node S port) None _ _ (λ n here.
      ap (λ e. cond (not (is_open n from)) None (Some (moved port S e)))
      (same_closing from n (on_time.each port n here)))

-- every event but a time-out
pub same_step : (table : List Class) (act : Acting) (S : State) (event : Event) →
    IsNoTimeOut event → AllOnTime S → step table act S event ≡ step_1 table act S event
same_step table act S (Take port from) q h =
    ap (λ x. unwrap_or x (skipped S)) (same_take table S h port from)
same_step table act S (Close port peer) q h =
    ap (λ x. unwrap_or x (skipped S)) (same_close table S h port peer)
same_step table act S (Timeout port) q h = absurd q
same_step table act S _ q h = refl

-- without a time-out no call is given up
pub stays_on_time : (table : List Class) (act : Acting) (S : State) (event : Event) →
    IsNoTimeOut event → AllOnTime S → AllOnTime (step table act S event).state
stays_on_time table act S event q h = record {
  each = all_passed Follows S (step table act S event).state (follow_steps table act S event q)
      IsOnTime (λ n m f late. f.late late) h.each;
}
