use Rattle.do_bounds.proofs.laws.nodes_stay_within_limits.Goals as goal
use Rattle.do_bounds.proofs.Inputs.{nodes_within}

pub returns : goal.returns
returns c = nodes_within
