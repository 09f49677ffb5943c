use Rattle.do_rules.proofs.run.changes.+set_outs.Given as goal
use Rattle.std.proofs.Common.{length, ◌-◌}

abbrev pub decreases-set_outs : goal.decreases-set_outs
decreases-set_outs l = length l.outs.now
