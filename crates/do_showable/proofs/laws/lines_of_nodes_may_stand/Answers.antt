use Rattle.do_showable.proofs.laws.lines_of_nodes_may_stand.Goals as goal
use Rattle.do_showable.proofs.Inputs.{lines_stand}

pub returns : goal.returns
returns c = lines_stand
