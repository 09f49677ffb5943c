use Rattle.do_center.proofs.limits.is_queue.Given as goal
use Rattle.std.{proofs.Common.{◌≡◌, true, take}, specs.List.list_all}
use Rattle.do_center.specs.Seats.{is_queued, registrations}

abbrev pub invariant-loop-entry : goal.invariant-loop-entry
invariant-loop-entry l =
    list_all (is_queued (registrations l.seats) l.observer)
    (take l.entry-index l.entry-items)
    ≡ true
