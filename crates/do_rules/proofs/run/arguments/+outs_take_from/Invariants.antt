use Rattle.do_rules.proofs.run.arguments.+outs_take_from.Given as goal
use Rattle.std.proofs.Common.{length, ◌-◌}

abbrev pub decreases-outs_take_from : goal.decreases-outs_take_from
decreases-outs_take_from l = length l.signature.now.args - l.k
