use Rattle.site_calls.proofs.packing.values.flags.Given as goal
use Rattle.std.proofs.Common.{◌≡◌, length}

abbrev pub invariant-loop-k : goal.invariant-loop-k
invariant-loop-k l = length l.flags ≡ l.k
