-- The objects that are lent up to here were added.
use Rattle.do_lost.proofs.nodes.push_lent.Given as goal
use Rattle.std.proofs.Common.{◌≡◌, ◌++◌, map, take}

abbrev pub invariant-loop-lend : goal.invariant-loop-lend
invariant-loop-lend l =
    l.objects ≡ l.fn.objects ++ map (λ x. x.object) (take l.lend-index l.lend-items)
