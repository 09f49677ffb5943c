use Rattle.do_site.proofs.work.Work.plan_of.Goals as goal
use Rattle.std.{proofs.Common.{◌∙◌, ap, sym}, specs.Option.option_copied}
use Rattle.do_machine.specs.run.Verdicts.{effect_of}
use Rattle.do_network.specs.Own.{site_context}
use Rattle.do_site.proofs.{PlansAlike.same_rule, PlansKeep.{if_ok, turn_of}}

-- the plan does what the rules decide of the act
pub returns : goal.returns
returns c =
    if_ok c.planned.result (λ plan planned r run.
    let turn = turn_of c.args.table.now c.judged_by-ground.result.table.now
    c.args.self.now.core.part.own c.judged_by-ground.result.part.now.own c.in-Some.top.now r
    c.judged_by-ground.ensures.table (ap (λ p. p.own) c.judged_by-ground.ensures.part)
    (sym c.top.ensures ∙ ap option_copied c.in-Some.is) run in
    planned r turn
    ∙ ap (effect_of r) (c.in-Ok.ensures
    ∙ same_rule r (site_context c.judged_by-ground.result.table.now
    c.judged_by-ground.result.part.now.own) c.in-Some.top.now turn.context turn.acts c.args.act))
    c.planned.ensures
