use Rattle.do_names.proofs.names.Names.from_slots.Goals as goal
use Rattle.std.proofs.{Common.{◌≡◌, Some, arith}, lemmas.Grind.common_steps}
use Rattle.do_names.{specs.Core.from_slots, proofs.SlotsExact.{read_back, to_from}}

pub invariant_of-result : goal.invariant_of-result
invariant_of-result c =
    let read : from_slots c.args.slots.now ≡ Some c.in-Some-2.ports =
    grind (arith, common_steps) in
    (to_from c.args.slots.now c.in-Some-2.ports read).1

pub returns-in-Some-2-clause-exact : goal.returns-in-Some-2-clause-exact
returns-in-Some-2-clause-exact c =
    let read : from_slots c.args.slots.now ≡ Some c.in-Some-2.ports =
    grind (arith, common_steps) in
    read_back c.args.slots.now c.in-Some-2.ports read
