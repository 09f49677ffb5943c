use Rattle.do_rules.proofs.node.naming.+push_mine.Given as goal
use Rattle.std.proofs.Common.{length}

abbrev pub decreases-push_mine : goal.decreases-push_mine
decreases-push_mine l = length l.names.now
