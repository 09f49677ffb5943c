use Rattle.do_kept.proofs.laws.checkers_keep_values_sendable.Goals as goal
use Rattle.do_kept.proofs.Checkers.{checkers_keep}

pub returns : goal.returns
returns c = checkers_keep
