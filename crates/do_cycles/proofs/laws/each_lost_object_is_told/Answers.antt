use Rattle.do_cycles.proofs.laws.each_lost_object_is_told.Goals as goal
use Rattle.do_cycles.proofs.EachTold.{reached_told}

pub returns : goal.returns
returns c = reached_told
