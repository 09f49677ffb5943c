use Rattle.do_center.proofs.slots.seated.Given as goal
use Rattle.std.proofs.Common.{◌≡◌, ◌++◌, drop}
use Rattle.do_center.specs.Slots.{seated}

abbrev pub invariant-loop-registration : goal.invariant-loop-registration
invariant-loop-registration l =
    l.seats ++ seated (drop l.registration-index l.registration-items) l.waiting
    ≡ seated l.registration-items l.fn.waiting
