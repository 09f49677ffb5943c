use Rattle.do_site.proofs.planning.beginning.Goals as goal
use Rattle.std.proofs.Common.{ap}
use Rattle.do_behave.specs.declared.invocation.Invocation.{Invocation}
use Rattle.do_effects.specs.{Plans.plan_effect, declared.plan.Plan.TheVariants.Begins}

-- the invocation is that of the rules
pub returns-in-Ok : goal.returns-in-Ok
returns-in-Ok c = λ r.
    ap (λ (i : Invocation). plan_effect r (Begins i c.args.into c.args.outs c.args.pc))
    c.in-Ok.ensures
