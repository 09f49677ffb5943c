use Rattle.do_document.proofs.parts.guard.Goals as goal
use Rattle.do_document.proofs.PartSteps.{ruleless_good}

pub returns-clause-good : goal.returns-clause-good
returns-clause-good c =
    rw c.new.ensures (ruleless_good c.in_ok-methods.methods c.in_ok-methods.ensures.limits
    c.in_ok-methods.ensures.typed)
