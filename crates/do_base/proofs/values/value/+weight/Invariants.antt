use Rattle.do_base.proofs.values.value.+weight.Given as goal
use Rattle.std.proofs.Common.{◌≡◌, take, sum_by}
use Rattle.do_base.specs.values.Values.{weight_of}

abbrev pub invariant-weights-loop-value : goal.invariant-weights-loop-value
invariant-weights-loop-value l = l.sum ≡ sum_by weight_of (take l.value-index l.value-items)
