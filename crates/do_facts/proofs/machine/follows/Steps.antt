-- Every event keeps what the moves of a state keep.
use Rattle.do_machine.specs.declared.item.Item.TheVariants as items
use Rattle.std.proofs.Common.{◌≡◌, ◌∙◌, ℕ, Bool, true, false, List, [], refl, sym, subst}
use Rattle.std.specs.{Prelude.Some, List.insert}
use Rattle.do_base.specs.declared.events.event.Event.{Event}
use Rattle.do_base.specs.declared.events.event.Event.TheVariants.{Close, Run, Start, Timeout}
use Rattle.do_class.specs.Class.{Class}
use Rattle.do_machine.specs.declared.{node.Node.Node, state.{Effect.Effect, State.State}}
use Rattle.do_machine.specs.{declared.state.Stepped.Stepped, Commit.{commit, moved}}
use Rattle.do_machine.specs.{Context.{around, context}, Start.start_effect, State.node, Step.step}
use Rattle.do_machine.specs.{ends.TimeOut.time_out, held.Leaving.leaving}
use Rattle.do_machine.specs.run.Run.{Acting, run_effect}
use Rattle.do_facts.specs.{laws.Follows.{Follows, Grows, IsNoTimeOut}, steps.IsStep.{Acts, Checks}}
use Rattle.do_facts.specs.steps.IsStep.{IsRuleOf, IsStep, Loses, Skips, Takes, without_oldest}
use Rattle.do_facts.proofs.machine.follows.{Follows.by_leaving, Moves.Moves}
use Rattle.do_facts.proofs.machine.follows.{States.{changed, requeued}, Steady.IsSteady}
use Rattle.do_facts.proofs.{steps.EachIsStep.step_is, walk.Done.done_there}
use Rattle.do_facts.proofs.machine.follows.SteadyTakes.{by_closing, by_take}
use Rattle.do_facts.proofs.machine.follows.SteadyRuns.{by_run, by_start, by_time_out}

-- the event is a time-out
abbrev pub is_time_out : Event → Bool
is_time_out (Timeout port) = true
is_time_out _ = false

-- the event closes an end
abbrev pub is_close : Event → Bool
is_close (Close port peer) = true
is_close _ = false

-- an event that is no time-out
pub no_time_out : (event : Event) → IsNoTimeOut event → is_time_out event ≡ false
no_time_out (Timeout port) on = absurd on
no_time_out _ on = refl

module _ (table : List Class) (act : Acting) (S : State) where
  -- the effect of an event's rule
  pub rule_steady : (event : Event) (n : Node) (e : Effect) → IsRuleOf table act S event n e →
      IsSteady (is_time_out event) (is_close event) n e
  rule_steady (Start port selector values) n e rule =
      done_there (start_effect table selector values n) e (by_start table selector values n) rule
  rule_steady (Run port) n e rule =
      done_there (run_effect act (context table S n)) e (by_run act (context table S n)) rule
  rule_steady (Close port peer) n e rule =
      subst (IsSteady false true n) (sym rule.1) (by_closing peer n)
  rule_steady (Timeout port) n e rule = done_there (time_out n) e (by_time_out n) rule
  rule_steady _ n e rule = absurd rule

  -- by it a node grows
  pub rule_grows : (event : Event) (n : Node) (e : Effect) → IsRuleOf table act S event n e →
      Grows n e.node
  rule_grows event n e rule = (rule_steady event n e rule).node.grows

module _ (G : Node → Node → Type 0) (K : State → State → Type 0) (moves : Moves G K)
    (given : (n m : Node) → Follows n m → G n m) where
  -- a node moves
  kept_moved : (port : ℕ) (S : State) (e : Effect) (n : Node) → node S port ≡ Some n →
      G n e.node → K S (moved port S e).state
  kept_moved port S e n h g =
      let T = commit port e S in
      let d = leaving (around T e.node).entry e.node in
      moves.after S T (commit port d T) (moves.commits port e S n h g)
      (moves.commits port d T e.node (changed port e n S.stations h)
      (given e.node d.node (by_leaving (around T e.node).entry e.node)))

  module _ (table : List Class) (act : Acting) (S : State)
      (grown : (n m : Node) → Grows n m → G n m) where
    -- each form of a step
    pub by_form : (event : Event) (s : Stepped) → IsStep table act S event s → K S s.state
    by_form event s (Skips e) = subst (λ x. K S x.state) (sym e) (moves.same S)
    by_form event s (Acts port n d own here rule e) =
        subst (λ x. K S x.state) (sym e)
        (kept_moved port S d n here
        (grown n d.node (rule_grows table act S event n d rule)))
    by_form event s (Takes port from n item behind d is here rule waits e) =
        let T = without_oldest S from port behind in
        subst (λ x. K S x.state) (sym e)
        (moves.after S T (moved port T d).state (moves.requeues from port behind S)
        (kept_moved port T d n (requeued from port port behind S.stations ∙ here)
        (subst (λ x. G n x.node) (sym rule.1)
        (given n _ (by_take (context table T n) from item rule.0)))))
    by_form event s (Loses from to k waiting is waits few e) =
        subst (λ x. K S x.state) (sym e)
        (moves.requeues from to (insert waiting k (items.End [])) S)
    by_form event s (Checks is e) = subst (λ x. K S x.state) (sym e) (moves.same S)

    -- every event
    pub by_any_step : (event : Event) → K S (step table act S event).state
    by_any_step event = by_form event (step table act S event) (step_is S table act event)
