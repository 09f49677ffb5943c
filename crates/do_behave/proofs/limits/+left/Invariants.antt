use Rattle.do_behave.proofs.limits.+left.Given as goal
use Rattle.std.{proofs.Common.{◌≡◌, take, Some}, specs.Prelude.sum_by}
use Rattle.do_base.specs.values.Values.{weight_of}
use Rattle.do_behave.specs.Limits.{left_of}

abbrev pub invariant-left_behind_all-loop-value : goal.invariant-left_behind_all-loop-value
invariant-left_behind_all-loop-value l =
    Some l.rest ≡ left_of l.most (sum_by weight_of (take l.value-index l.value-items))
