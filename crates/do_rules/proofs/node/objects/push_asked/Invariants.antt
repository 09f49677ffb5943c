use Rattle.do_rules.proofs.node.objects.push_asked.Given as goal
use Rattle.std.proofs.Common.{◌≡◌, ◌++◌, map, take}

abbrev pub invariant-loop-wanted : goal.invariant-loop-wanted
invariant-loop-wanted l =
    l.objects ≡ l.fn.objects ++ map (λ x. x.object) (take l.wanted-index l.wanted-items)
