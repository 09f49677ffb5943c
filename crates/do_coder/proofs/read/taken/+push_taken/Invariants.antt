use Rattle.do_coder.proofs.read.taken.+push_taken.Given as goal
use Rattle.std.proofs.Common.{length}

abbrev pub decreases-push_taken : goal.decreases-push_taken
decreases-push_taken l = length l.pairs.now
