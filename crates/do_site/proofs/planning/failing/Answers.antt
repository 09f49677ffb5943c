use Rattle.do_site.proofs.planning.failing.Goals as goal
use Rattle.std.proofs.Common.{ap, sym, ◌∙◌}
use Rattle.do_base.specs.declared.values.value.Value.TheVariants.{Text}
use Rattle.do_behave.specs.declared.invocation.Invocation.{Invocation}
use Rattle.do_machine.specs.run.{Delivery.failing, Verdicts.effect_of}
use Rattle.do_machine.specs.declared.verdict.Verdict.TheVariants.{Goes}
use Rattle.do_site.proofs.PlansKeep.{if_ok}

-- with no handler the exception is an answer
pub returns-in-None-clause-effect : goal.returns-in-None-clause-effect
returns-in-None-clause-effect c =
    if_ok c.delivering.result (λ plan does r turn. does r turn
    ∙ ap (failing r c.args.exc) (sym (ap (λ (i : Invocation). i.handler) turn.acts
    ∙ c.in-None.is))) c.delivering.ensures.effect

-- a handler gets its name
pub returns-in_ok-exc_name-in-Some-clause-effect : goal.returns-in_ok-exc_name-in-Some-clause-effect
returns-in_ok-exc_name-in-Some-clause-effect c = λ r turn.
    ap (λ text. effect_of r (Goes c.in-Some.handler.into (Text text) c.in-Some.handler.pc))
    c.in_ok-exc_name-in-Some.ensures
    ∙ ap (failing r c.args.exc) (sym (ap (λ (i : Invocation). i.handler) turn.acts
    ∙ c.in-Some.is))
