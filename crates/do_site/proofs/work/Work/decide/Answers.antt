use Rattle.do_site.proofs.work.Work.decide.Goals as goal
use Rattle.std.proofs.Common.{subst}
use Rattle.do_machine.specs.declared.state.Effect.{Effect}
use Rattle.do_site.{specs.Steps.Moves, proofs.PlansKeep.on_ok}

-- the plan that is carried out does what the rules decide
pub returns-clause-ok : goal.returns-clause-ok
returns-clause-ok c =
    on_ok c.carry_out.result (λ done r run.
    subst (λ (e : Effect). Moves c.args.self.now.core c.carry_out.new.self.core e)
    (c.in-Ok.ensures r run) (done r run)) c.carry_out.ensures.ok
