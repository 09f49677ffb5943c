use Rattle.do_center.proofs.slots.queues_slot.Given as goal
use Rattle.std.proofs.Common.{◌≡◌, map, take}
use Rattle.do_center.specs.Slots.{waiting, waiting_value}

abbrev pub invariant-loop-seat : goal.invariant-loop-seat
invariant-loop-seat l =
    l.rows ≡ map waiting_value (waiting (take l.seat-index l.seat-items))
