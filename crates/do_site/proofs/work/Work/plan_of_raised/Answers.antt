use Rattle.do_site.proofs.work.Work.plan_of_raised.Goals as goal
use Rattle.std.{proofs.Common.{◌≡◌, ◌∙◌, ap, subst, sym}, specs.Option.option_copied}
use Rattle.do_behave.specs.declared.invocation.{Answer.Answer, Invocation.Invocation}
use Rattle.do_effects.specs.Plans.{plan_effect}
use Rattle.do_machine.specs.run.{Run.answer_rule, Verdicts.effect_of}
use Rattle.do_site.proofs.{AnswersUsed.raised_answer, PlansKeep.{if_ok, turn_of}}

-- the plan does what the rules say of the exception
pub returns-clause-effect : goal.returns-clause-effect
returns-clause-effect c =
    if_ok c.failing.result (λ plan effect r a run is.
    let turn = turn_of c.args.table.now c.judged_by-ground.result.table.now
    c.args.self.now.core.part.own c.judged_by-ground.result.part.now.own c.in-Some.top.now r
    c.judged_by-ground.ensures.table (ap (λ p. p.own) c.judged_by-ground.ensures.part)
    (sym c.top.ensures ∙ ap option_copied c.in-Some.is) run in
    subst (λ (b : Answer). plan_effect r plan ≡ effect_of r (answer_rule b))
    (raised_answer c.in-Some.top.now.state a c.in-Some-2.exc
    (sym (ap (λ (i : Invocation). i.state) turn.acts) ∙ is)
    (sym c.in_ok-exc.ensures ∙ c.in-Some-2.is))
    (effect r turn)) c.failing.ensures.effect
