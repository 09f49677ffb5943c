use Rattle.do_kept.proofs.laws.worlds_keep_values_sendable.Goals as goal
use Rattle.do_kept.proofs.Ranged.{worlds_keep}

pub returns : goal.returns
returns c = worlds_keep
