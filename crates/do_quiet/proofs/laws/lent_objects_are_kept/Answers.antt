use Rattle.do_quiet.proofs.laws.lent_objects_are_kept.Goals as goal
use Rattle.do_quiet.proofs.LendsKept.{reached_lent}

pub returns : goal.returns
returns c = λ table act seats. reached_lent table seats act
