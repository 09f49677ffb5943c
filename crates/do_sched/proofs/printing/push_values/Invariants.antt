use Rattle.do_sched.proofs.printing.push_values.Given as goal
use Rattle.std.{proofs.Common.{◌≡◌, ◌++◌, take}, specs.List.flat_map}
use Rattle.do_sched.specs.Spelling.{spaced_value}

abbrev pub invariant-loop-value : goal.invariant-loop-value
invariant-loop-value l = l.out ≡ l.fn.out ++ flat_map spaced_value (take l.value-index l.values)
