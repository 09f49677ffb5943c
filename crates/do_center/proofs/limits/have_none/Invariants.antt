use Rattle.do_center.proofs.limits.have_none.Given as goal
use Rattle.std.{proofs.Common.{◌≡◌, true, take}, specs.List.list_all}
use Rattle.do_center.specs.Seats.{has_none}

abbrev pub invariant-loop-seat : goal.invariant-loop-seat
invariant-loop-seat l =
    list_all (has_none l.observer) (take l.seat-index l.seats) ≡ true
