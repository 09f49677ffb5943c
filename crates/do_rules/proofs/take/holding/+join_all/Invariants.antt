use Rattle.do_rules.proofs.take.holding.+join_all.Given as goal
use Rattle.std.proofs.Common.{length, ◌-◌}

abbrev pub decreases-join_all : goal.decreases-join_all
decreases-join_all l = length l.objects.now
