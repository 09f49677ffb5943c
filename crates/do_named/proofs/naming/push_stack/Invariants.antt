-- The objects of the invocations from the top on were added.
use Rattle.do_named.proofs.naming.push_stack.Given as goal
use Rattle.std.proofs.Common.{◌≡◌, ◌++◌, take}
use Rattle.do_machine.specs.held.Refers.{stack_objects}

abbrev pub invariant-loop-below : goal.invariant-loop-below
invariant-loop-below l =
    l.objects ≡ l.fn.objects ++ stack_objects (take l.below l.part.own.node.stack)
