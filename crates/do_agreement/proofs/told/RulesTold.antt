-- What the effect of an event's rule sends tells the classes that its node sees.
use Rattle.std.{proofs.Common.{List, sym, subst, ◌≡◌}, specs.Prelude.{Option, Some}}
use Rattle.do_base.specs.declared.events.event.Event.{Event}
use Rattle.do_base.specs.declared.events.event.Event.TheVariants.{Close, Run, Start, Timeout}
use Rattle.do_class.specs.Class.{Class}
use Rattle.do_machine.specs.declared.{node.Node.Node, state.{Effect.Effect, State.State}}
use Rattle.do_machine.specs.{Context.{Context, context}, Start.start_effect, ends.TimeOut.time_out}
use Rattle.do_machine.specs.run.Run.{Acting, run_effect}
use Rattle.do_facts.specs.steps.IsStep.{IsRuleOf}
use Rattle.do_agreement.specs.AreTold.{AreTold}
use Rattle.do_agreement.proofs.told.{RunsTold.{ToldIf, run_told}, TakesTold.closing_told}
use Rattle.do_facts.proofs.walk.Possible.{by_begins, by_giving_up, there}

-- the effect that there is
told_there : (c : Context) (found : Option Effect) (e : Effect) → ToldIf c found →
    found ≡ Some e → AreTold c e.sent
told_there c = there (λ e. AreTold c e.sent)

-- the effect of an event's rule
pub rule_told : (table : List Class) (act : Acting) (S : State) (event : Event) (n : Node)
    (e : Effect) → IsRuleOf table act S event n e → AreTold (context table S n) e.sent
rule_told table act S (Start port selector values) n e rule =
    let c = context table S n in
    told_there c (start_effect table selector values n) e
    (by_begins (λ d. AreTold c d.sent) table selector values n (λ i. tt)) rule
rule_told table act S (Run port) n e rule =
    let c = context table S n in
    told_there c (run_effect act c) e (run_told act c) rule
rule_told table act S (Close port peer) n e rule =
    let c = context table S n in
    subst (λ d. AreTold c d.sent) (sym rule.1) (closing_told c peer n)
rule_told table act S (Timeout port) n e rule =
    let c = context table S n in
    told_there c (time_out n) e
    (by_giving_up (λ d. AreTold c d.sent) n (λ call peer what i below. tt)) rule
rule_told table act S _ n e rule = absurd rule
