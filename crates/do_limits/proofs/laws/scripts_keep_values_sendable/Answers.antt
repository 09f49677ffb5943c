use Rattle.do_limits.proofs.laws.scripts_keep_values_sendable.Goals as goal
use Rattle.do_limits.proofs.scripts.Instructions.{scripts_keep}

pub returns : goal.returns
returns c = scripts_keep
