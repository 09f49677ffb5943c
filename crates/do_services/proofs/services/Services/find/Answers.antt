use Rattle.do_services.proofs.services.Services.find.Goals as goal
use Rattle.std.proofs.Common.{◌∙◌}
use Rattle.do_services.proofs.IsTold.{service_told}

pub returns-clause-meaning : goal.returns-clause-meaning
returns-clause-meaning c =
    λ h is. c.service_of.ensures ∙ service_told h c.args.self.now c.args.item.now is
