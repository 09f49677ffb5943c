use Rattle.do_center.proofs.center.Center.registrations.Goals as goal
use Rattle.std.proofs.{Common.◌∙◌, lemmas.Result.IfOk-weaker}
use Rattle.do_center.proofs.RegistrationsTold.{core_registered}

pub returns-clause-meaning : goal.returns-clause-meaning
returns-clause-meaning c h is =
    let told = core_registered h (c.self.inside.seats, c.self.inside.suspended)
    (c.self.view_is ∙ is) in
    IfOk-weaker c.registrations_of.result _ _ (λ all e. e ∙ told) c.registrations_of.ensures
