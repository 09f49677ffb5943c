use Rattle.do_bounds.proofs.laws.frames_of_nodes_stay_within_limits.Goals as goal
use Rattle.do_bounds.proofs.Inputs.{sends_within}

pub returns : goal.returns
returns c table act ports seat inputs input t signed is keeps come =
    sends_within table act ports seat inputs t signed is keeps come input
