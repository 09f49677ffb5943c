use Rattle.do_check.proofs.law.denial_raises.Goals as goal
use Rattle.do_check.proofs.OnlyAllowed.{denial_raises}

pub returns : goal.returns
returns c = denial_raises
