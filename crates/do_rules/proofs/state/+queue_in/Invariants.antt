use Rattle.do_rules.proofs.state.+queue_in.Given as goal
use Rattle.std.proofs.Common.{length}

abbrev pub decreases-queue_in : goal.decreases-queue_in
decreases-queue_in l = length l.queues.now
