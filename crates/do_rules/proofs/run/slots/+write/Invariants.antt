use Rattle.do_rules.proofs.run.slots.+write.Given as goal
use Rattle.std.proofs.Common.{length, ◌-◌}

abbrev pub decreases-write : goal.decreases-write
decreases-write l = length l.writes.now
