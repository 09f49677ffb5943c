use Rattle.do_base.proofs.values.value.+copy.Given as goal
use Rattle.std.proofs.Common.{◌≡◌, take}

abbrev pub invariant-copy_values-loop-value : goal.invariant-copy_values-loop-value
invariant-copy_values-loop-value l = l.copies ≡ take l.value-index l.value-items
