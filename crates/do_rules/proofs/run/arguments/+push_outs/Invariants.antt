use Rattle.do_rules.proofs.run.arguments.+push_outs.Given as goal
use Rattle.std.proofs.Common.{length}

abbrev pub decreases-push_outs : goal.decreases-push_outs
decreases-push_outs g l = length l.items.now
