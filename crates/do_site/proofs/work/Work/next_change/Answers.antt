use Rattle.do_site.proofs.work.Work.next_change.Goals as goal
use Rattle.std.{proofs.Common.{◌∙◌, ap, sym, subst}, specs.Option.option_copied}
use Rattle.do_behave.specs.{Changes.Means, declared.{act.Act.Act, invocation.Invocation.Invocation}}
use Rattle.do_machine.specs.run.Run.{next_act}
use Rattle.do_network.specs.Own.{site_context}
use Rattle.do_site.proofs.{PlansAlike.same_act, PlansKeep.{if_ok, turn_of}}

-- the change means the next act
pub returns : goal.returns
returns g c =
    if_ok c.next_change.result (λ change means r run.
    let turn = turn_of c.args.table.now c.judged_by-ground.result.table.now
    c.args.self.now.core.part.own c.judged_by-ground.result.part.now.own c.in-Some.top.now r
    c.judged_by-ground.ensures.table (ap (λ p. p.own) c.judged_by-ground.ensures.part)
    (sym c.top.ensures ∙ ap option_copied c.in-Some.is) run in
    subst (λ (top : Invocation). Means top change (next_act (g.B.Behaviour.act c.args.acts.now) r))
    (sym turn.acts)
    (subst (λ (act : Act). Means c.in-Some.top.now change act)
    (same_act r (site_context c.judged_by-ground.result.table.now
    c.judged_by-ground.result.part.now.own) c.in-Some.top.now turn.context turn.acts
    (g.B.Behaviour.act c.args.acts.now)) means))
    c.next_change.ensures
