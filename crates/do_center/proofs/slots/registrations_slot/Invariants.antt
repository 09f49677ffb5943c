use Rattle.do_center.proofs.slots.registrations_slot.Given as goal
use Rattle.std.proofs.Common.{◌≡◌, map, take}
use Rattle.do_center.specs.{Registrations.registration_value, Seats.registrations}

abbrev pub invariant-loop-seat : goal.invariant-loop-seat
invariant-loop-seat l =
    l.rows ≡ map registration_value (registrations (take l.seat-index l.seat-items))
