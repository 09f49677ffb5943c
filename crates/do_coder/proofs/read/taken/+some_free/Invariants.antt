use Rattle.do_coder.proofs.read.taken.+some_free.Given as goal
use Rattle.std.proofs.Common.{◌-◌}

abbrev pub decreases-some_free : goal.decreases-some_free
decreases-some_free l = l.classes - l.from
