use Rattle.do_services.proofs.services.Services.read.Goals as goal
use Rattle.std.proofs.{Common.{◌≡◌, Some, arith}, lemmas.Grind.common_steps}
use Rattle.do_services.specs.{Core.from_slots, laws.SlotsExact.to_from}

pub invariant_of-result : goal.invariant_of-result
invariant_of-result c =
    let read : from_slots c.args.slots.now ≡ Some c.in-Some.services =
    grind (arith, common_steps) in
    (to_from c.args.slots.now c.in-Some.services read).1
