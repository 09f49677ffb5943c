use Rattle.do_center.proofs.center.of_core.Goals as goal
use Rattle.std.proofs.{Common.{◌≡◌, Some, true, false, sym, arith}, lemmas.Grind.common_steps}
use Rattle.std.specs.Cmp.Lexicographic.{pointwise}
use Rattle.do_base.specs.values.Equal.{value_eq}
use Rattle.do_center.specs.{Seats.{are_seats, read_suspended}, Slots.to_slots}
use Rattle.do_center.proofs.SuspendedSet.{core_shown}

pub returns-then-eq : goal.returns-then-eq
returns-then-eq c =
    let ss = c.args.seats in
    let xs = c.in-Some.suspended in
    let slots = c.args.slots.now in
    let seats : are_seats ss ≡ true = grind (arith, common_steps) in
    let read : read_suspended c.args.suspended ≡ Some xs = grind (arith, common_steps) in
    let shown : pointwise value_eq (to_slots (ss, xs)) slots ≡ true = grind (arith, common_steps) in
    sym (core_shown slots ss c.args.suspended xs true seats read shown)

pub returns : goal.returns
returns c =
    let ss = c.args.seats in
    let xs = c.in-Some.suspended in
    let slots = c.args.slots.now in
    let seats : are_seats ss ≡ true = grind (arith, common_steps) in
    let read : read_suspended c.args.suspended ≡ Some xs = grind (arith, common_steps) in
    let shown : pointwise value_eq (to_slots (ss, xs)) slots ≡ false =
    grind (arith, common_steps)
    in
    sym (core_shown slots ss c.args.suspended xs false seats read shown)
