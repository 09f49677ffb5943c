use Rattle.do_advice.proofs.watched.Raises.see_all.Given as goal
use Rattle.std.proofs.Common.{length, ◌≤◌}

abbrev pub invariant-loop-end : goal.invariant-loop-end
invariant-loop-end l = length l.rest ≤ length l.bytes

abbrev pub decreases-loop-end : goal.decreases-loop-end
decreases-loop-end l = length l.rest
