use Rattle.do_network.proofs.laws.counts.names_back_are_taken_off.Goals as goal
use Rattle.do_network.proofs.CountsFollow.{lowered_count}

pub returns : goal.returns
returns c p from serial amount = lowered_count p.counts from serial amount
