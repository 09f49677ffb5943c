-- Each call has fewer ports.
use Rattle.do_site.proofs.opening.+are_distinct.Given as goal
use Rattle.std.proofs.Common.{length}

abbrev pub decreases-are_distinct : goal.decreases-are_distinct
decreases-are_distinct l = length l.peers.now
