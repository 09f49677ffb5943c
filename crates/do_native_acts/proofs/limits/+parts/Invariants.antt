use Rattle.do_native_acts.proofs.limits.+parts.Given as goal
use Rattle.std.{proofs.Common.{◌≡◌, true, take}, specs.List.list_all}
use Rattle.do_behave.specs.Limits.{has_small_parts}

abbrev pub invariant-all_have_small_parts-loop-value :
    goal.invariant-all_have_small_parts-loop-value
invariant-all_have_small_parts-loop-value l =
    list_all has_small_parts (take l.value-index l.value-items) ≡ true
