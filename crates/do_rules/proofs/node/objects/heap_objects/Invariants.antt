use Rattle.do_rules.proofs.node.objects.heap_objects.Given as goal
use Rattle.std.proofs.Common.{◌≡◌, take}
use Rattle.do_machine.specs.held.Refers.{heap_objects}

abbrev pub invariant-loop-stored : goal.invariant-loop-stored
invariant-loop-stored l = l.objects ≡ heap_objects (take l.stored-index l.stored-items)
