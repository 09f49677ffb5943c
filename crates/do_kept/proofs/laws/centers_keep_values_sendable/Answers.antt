use Rattle.do_kept.proofs.laws.centers_keep_values_sendable.Goals as goal
use Rattle.do_kept.proofs.Centers.{centers_keep}

pub returns : goal.returns
returns c = centers_keep
