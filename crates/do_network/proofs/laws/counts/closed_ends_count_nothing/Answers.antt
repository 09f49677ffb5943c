use Rattle.do_network.proofs.laws.counts.closed_ends_count_nothing.Goals as goal
use Rattle.do_network.{specs.Site.site_move, proofs.CountsFollow.closed_count}

pub returns : goal.returns
returns c p e peer serial shut = closed_count (site_move p e).own.node _ peer serial shut
