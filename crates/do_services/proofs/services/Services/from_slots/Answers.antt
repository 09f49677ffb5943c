use Rattle.do_services.proofs.services.Services.from_slots.Goals as goal
use Rattle.std.proofs.lemmas.Result.{IfOk-weaker}
use Rattle.do_services.specs.laws.SlotsExact.{exact_read}

pub returns-clause-exact : goal.returns-clause-exact
returns-clause-exact c =
    IfOk-weaker c.read.result _ _ (λ o same. exact_read c.args.slots.now o same) c.read.ensures
