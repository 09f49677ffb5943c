use Rattle.do_coder.proofs.read.taken.+push_whole.Given as goal
use Rattle.std.proofs.Common.{length}

abbrev pub decreases-push_whole : goal.decreases-push_whole
decreases-push_whole l = length l.pairs.now
