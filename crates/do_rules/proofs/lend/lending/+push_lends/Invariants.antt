use Rattle.do_rules.proofs.lend.lending.+push_lends.Given as goal
use Rattle.std.proofs.Common.{length}

abbrev pub decreases-push_lends : goal.decreases-push_lends
decreases-push_lends l = length l.names.now
