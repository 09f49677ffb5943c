use Rattle.do_center.proofs.seats.deliveries.Given as goal
use Rattle.std.proofs.Common.{◌≡◌, take}
use Rattle.do_center.specs.Queues.{deliveries}

abbrev pub invariant-loop-entry : goal.invariant-loop-entry
invariant-loop-entry l = l.sent ≡ deliveries l.seats (take l.entry-index l.entry-items)
