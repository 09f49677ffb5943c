use Rattle.do_rules.proofs.node.objects.push_locals.Given as goal
use Rattle.std.{proofs.Common.{◌≡◌, ◌++◌, take}, specs.List.flat_map}
use Rattle.do_base.specs.values.Values.{objects_of}

abbrev pub invariant-loop-local : goal.invariant-loop-local
invariant-loop-local l =
    l.objects ≡ l.fn.objects ++ flat_map objects_of (take l.local-index l.local-items)
