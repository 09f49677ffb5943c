use Rattle.do_center.proofs.limits.all_seats.Given as goal
use Rattle.std.{proofs.Common.{◌≡◌, true, take}, specs.List.list_all}
use Rattle.do_center.specs.Seats.{is_seat, registrations}

abbrev pub invariant-loop-seat : goal.invariant-loop-seat
invariant-loop-seat l =
    list_all (is_seat (registrations l.seats)) (take l.seat-index l.seat-items) ≡ true
