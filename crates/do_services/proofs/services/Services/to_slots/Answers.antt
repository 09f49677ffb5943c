use Rattle.do_services.proofs.services.Services.to_slots.Goals as goal
use Rattle.std.proofs.{Common.{subst, ap, ◌∙◌, IsTrue}, lemmas.Result.IfOk-weaker}
use Rattle.do_services.specs.{Core.{are_services, from_slots}, laws.SlotsExact.from_to}

pub returns-clause-exact : goal.returns-clause-exact
returns-clause-exact c =
    let is = subst (λ es. IsTrue (are_services es)) c.self.view_is c.self.invariant in
    IfOk-weaker c.slots.result _ _ (λ slots same. ap from_slots same ∙ from_to c.args.self.now is)
    c.slots.ensures
