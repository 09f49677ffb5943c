use Rattle.do_center.proofs.limits.+are_apart.Given as goal
use Rattle.std.proofs.Common.{length}

abbrev pub decreases-are_apart : goal.decreases-are_apart
decreases-are_apart l = length l.seats.now
