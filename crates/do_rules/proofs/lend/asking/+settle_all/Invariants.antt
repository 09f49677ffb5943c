use Rattle.do_rules.proofs.lend.asking.+settle_all.Given as goal
use Rattle.std.proofs.Common.{length, ◌-◌}

abbrev pub decreases-settle_all : goal.decreases-settle_all
decreases-settle_all l = length l.wanted.now
