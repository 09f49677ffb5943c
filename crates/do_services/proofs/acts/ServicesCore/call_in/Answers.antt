use Rattle.do_services.proofs.acts.ServicesCore.call_in.Goals as goal
use Rattle.std.{proofs.Common.{subst, sym}, specs.Option.IfSome, proofs.lemmas.Result.IfOk-weaker}
use Rattle.do_services.{specs.Calls.IsCall, proofs.CallsFit.calls_fit}

pub returns-clause-taken : goal.returns-clause-taken
returns-clause-taken c =
    IfOk-weaker c.call_in.result _ _
    (λ o same. subst (λ p. IfSome p IsCall) (sym same)
    (calls_fit c.args.selector.now c.args.inv.now))
    c.call_in.ensures
