-- The objects that were asked for up to here were added.
use Rattle.do_lost.proofs.nodes.push_asked.Given as goal
use Rattle.std.proofs.Common.{◌≡◌, ◌++◌, map, take}

abbrev pub invariant-loop-wanted : goal.invariant-loop-wanted
invariant-loop-wanted l =
    l.objects ≡ l.fn.objects ++ map (λ w. w.object) (take l.wanted-index l.wanted-items)
