use Rattle.do_quiet.proofs.laws.nothing_is_lent_when_quiet.Goals as goal
use Rattle.do_quiet.proofs.QuietStates.{quiet_lends_nothing}

pub returns : goal.returns
returns c = λ table act seats. quiet_lends_nothing table seats act
