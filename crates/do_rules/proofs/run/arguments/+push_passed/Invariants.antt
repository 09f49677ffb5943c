use Rattle.do_rules.proofs.run.arguments.+push_passed.Given as goal
use Rattle.std.proofs.Common.{length}

abbrev pub decreases-push_passed : goal.decreases-push_passed
decreases-push_passed l = length l.values.now
