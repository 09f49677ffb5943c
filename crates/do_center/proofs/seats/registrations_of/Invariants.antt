use Rattle.do_center.proofs.seats.registrations_of.Given as goal
use Rattle.std.proofs.Common.{◌≡◌, take}
use Rattle.do_center.specs.Seats.{registrations}

abbrev pub invariant-loop-seat : goal.invariant-loop-seat
invariant-loop-seat l = l.all ≡ registrations (take l.seat-index l.seat-items)
