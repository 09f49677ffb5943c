use Rattle.do_quiet.proofs.laws.nodes_keep_what_is_held_up.Goals as goal
use Rattle.do_quiet.proofs.NodesKeep.{reached_nodes_keep}

pub returns : goal.returns
returns c = reached_nodes_keep
