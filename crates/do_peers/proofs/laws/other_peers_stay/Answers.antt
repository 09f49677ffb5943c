use Rattle.do_peers.proofs.laws.other_peers_stay.Goals as goal
use Rattle.do_peers.proofs.SitesKeep.{other_stays}

pub returns : goal.returns
returns c = other_stays
