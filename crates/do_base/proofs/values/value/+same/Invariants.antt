use Rattle.do_base.proofs.values.value.+same.Given as goal
use Rattle.std.proofs.Common.{◌≡◌, take}

abbrev pub invariant-same_values-loop-i : goal.invariant-same_values-loop-i
invariant-same_values-loop-i l = take l.i l.xs ≡ take l.i l.ys
