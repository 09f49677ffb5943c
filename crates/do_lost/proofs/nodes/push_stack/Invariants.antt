-- What the invocations up to here name was added.
use Rattle.do_lost.proofs.nodes.push_stack.Given as goal
use Rattle.std.proofs.Common.{◌≡◌, ◌++◌, take}
use Rattle.do_machine.specs.held.Refers.{stack_objects}

abbrev pub invariant-loop-invocation : goal.invariant-loop-invocation
invariant-loop-invocation l =
    l.objects ≡ l.fn.objects ++ stack_objects (take l.invocation-index l.invocation-items)
