use Rattle.site_calls.proofs.packing.made.ring.Given as goal
use Rattle.std.proofs.Common.{◌≡◌}

abbrev pub invariant-loop-i : goal.invariant-loop-i
invariant-loop-i l = l.ring.class.0 ≡ 0
