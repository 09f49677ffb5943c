-- What was added so far is the first value and those up to here, with a space before each.
use Rattle.do_sched.proofs.value.+value.Given as goal
use Rattle.std.proofs.Common.{◌≡◌, ◌++◌, take, map}
use Rattle.do_sched.specs.Value.{value_text, spaced}

abbrev pub invariant-push_values-loop-value : goal.invariant-push_values-loop-value
invariant-push_values-loop-value l =
    l.out ≡ l.initial.out ++ spaced (map value_text (take l.value-index l.rest))
