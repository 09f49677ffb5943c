use Rattle.do_native_acts.proofs.limits.+weighs.Given as goal
use Rattle.std.proofs.Common.{◌≡◌, take, sum_by, min}
use Rattle.do_base.specs.values.Values.{weight_of}

abbrev pub invariant-capped_sum-loop-value : goal.invariant-capped_sum-loop-value
invariant-capped_sum-loop-value l =
    l.sum ≡ min (sum_by weight_of (take l.value-index l.value-items)) 2097153
