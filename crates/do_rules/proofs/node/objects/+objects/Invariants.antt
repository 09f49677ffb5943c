use Rattle.do_rules.proofs.node.objects.+objects.Given as goal
use Rattle.std.{proofs.Common.{◌≡◌, ◌++◌, take}, specs.List.flat_map}
use Rattle.do_base.specs.values.Values.{objects_of}

abbrev pub invariant-push_all-loop-value : goal.invariant-push_all-loop-value
invariant-push_all-loop-value l =
    l.objects ≡ l.fn.objects ++ flat_map objects_of (take l.value-index l.value-items)
