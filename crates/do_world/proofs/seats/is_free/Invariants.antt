use Rattle.do_world.proofs.seats.is_free.Given as goal
use Rattle.std.{proofs.Common.{◌≡◌, ◌==◌, drop}, specs.List.list_any}
use Rattle.do_machine.specs.declared.state.Seat.{Seat}

abbrev pub invariant-loop-seat : goal.invariant-loop-seat
invariant-loop-seat l =
    list_any (λ (s : Seat). l.node == s.node) l.seats
    ≡ list_any (λ (s : Seat). l.node == s.node) (drop l.seat-index l.seats)
