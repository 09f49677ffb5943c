-- The objects in the locals up to here were added.
use Rattle.do_lost.proofs.nodes.push_locals.Given as goal
use Rattle.std.proofs.Common.{◌≡◌, ◌++◌, take}
use Rattle.do_machine.specs.held.Refers.{objects_in}

abbrev pub invariant-loop-local : goal.invariant-loop-local
invariant-loop-local l =
    l.objects ≡ l.fn.objects ++ objects_in (take l.local-index l.local-items)
