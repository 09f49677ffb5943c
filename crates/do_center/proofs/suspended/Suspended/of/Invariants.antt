use Rattle.do_center.proofs.suspended.Suspended.of.Given as goal
use Rattle.std.proofs.Common.{◌≡◌, true, take}
use Rattle.do_center.specs.Observers.{are_distinct}

abbrev pub invariant-loop-observer : goal.invariant-loop-observer
invariant-loop-observer l =
    (l.suspended ≡ take l.observer-index l.observer-items)
    × (are_distinct (take l.observer-index l.observer-items) ≡ true)
