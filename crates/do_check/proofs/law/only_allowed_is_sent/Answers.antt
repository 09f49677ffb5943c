use Rattle.do_check.proofs.law.only_allowed_is_sent.Goals as goal
use Rattle.do_check.proofs.OnlyAllowed.{only_allowed_is_sent}

pub returns : goal.returns
returns c = only_allowed_is_sent
