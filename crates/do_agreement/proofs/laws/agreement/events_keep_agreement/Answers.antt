use Rattle.do_agreement.proofs.laws.agreement.events_keep_agreement.Goals as goal
use Rattle.do_agreement.proofs.agreement.StepsAgree.{step_agrees}

-- every event keeps agreement and comes to the same
pub returns : goal.returns
returns c = step_agrees
