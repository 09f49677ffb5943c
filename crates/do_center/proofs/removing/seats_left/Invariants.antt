use Rattle.do_center.proofs.removing.seats_left.Given as goal
use Rattle.std.proofs.Common.{◌≡◌, take}
use Rattle.do_center.specs.Removing.{goes, seats_left}

abbrev pub invariant-loop-seat : goal.invariant-loop-seat
invariant-loop-seat l =
    l.left
    ≡ seats_left (goes l.gone.observer l.gone.name l.gone.object) l.places
    (take l.seat-index l.seat-items)
