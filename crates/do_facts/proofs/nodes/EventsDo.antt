-- The effect of an event's rule is moves of its node.
use Rattle.do_facts.specs.nodes.Cause as cause
use Rattle.std.proofs.Common.{List, [], refl, subst, sym}
use Rattle.do_base.specs.declared.events.event.Event.{Event}
use Rattle.do_base.specs.declared.events.event.Event.TheVariants.{Close, Run, Start, Timeout}
use Rattle.do_class.specs.Class.{Class}
use Rattle.do_machine.specs.declared.{node.Node.Node, state.{Effect.Effect, State.State}}
use Rattle.do_machine.specs.{Context.context, run.Run.Acting}
use Rattle.do_facts.specs.{steps.IsStep.IsRuleOf, nodes.{Cause.Cause, Judged.Judge, Moves.Wrote}}
use Rattle.do_facts.proofs.nodes.{Closing.by_closing, Judges.judge_of, Ruled.run_wrote}
use Rattle.do_facts.proofs.nodes.{RunWalks.{IfDoes, by_run}, Starting.{by_start, by_time_out}}
use Rattle.do_facts.proofs.nodes.Walks.{DoesTo}

-- what an effect of its rule comes of; other events have none
abbrev pub cause_of : Event → Cause
cause_of (Start port selector values) = cause.Start selector values
cause_of (Close port peer) = cause.Close peer
cause_of (Timeout port) = cause.TimeOut
cause_of _ = cause.Run

module _ (table : List Class) (act : Acting) (S : State) where
  -- what it is judged by
  abbrev pub judge : Event → Node → Judge
  judge event n = judge_of act (context table S n) (cause_of event)

  -- what it writes: only a run does
  abbrev pub rule_wrote : Event → Node → List Wrote
  rule_wrote (Run port) n = run_wrote (judge (Run port) n) n.stack
  rule_wrote _ n = []

  -- it is moves
  pub rule_does : (event : Event) (n : Node) (e : Effect) → IsRuleOf table act S event n e →
      DoesTo (judge event n) n [] (rule_wrote event n) e
  rule_does (Start port selector values) n e rule =
      let j = judge (Start port selector values) n in
      subst (IfDoes j []) rule (by_start j selector values refl)
  rule_does (Run port) n e rule =
      let j = judge (Run port) n in subst (IfDoes j (run_wrote j n.stack)) rule (by_run j)
  rule_does (Close port peer) n e rule =
      let j = judge (Close port peer) n in
      subst (DoesTo j n [] []) (sym rule.1) (by_closing j peer n refl rule.0 (λ o. o))
  rule_does (Timeout port) n e rule =
      let j = judge (Timeout port) n in subst (IfDoes j []) rule (by_time_out j refl)
  rule_does _ n e rule = absurd rule
