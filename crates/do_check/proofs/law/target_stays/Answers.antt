use Rattle.do_check.proofs.law.target_stays.Goals as goal
use Rattle.do_check.proofs.OnlyAllowed.{target_stays}

pub returns : goal.returns
returns c = target_stays
