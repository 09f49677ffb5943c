use Rattle.do_world.proofs.counter_world.add_class.Goals as goal
use Rattle.std.proofs.Common.{ap, arith, Err}
use Rattle.do_world.proofs.CounterClasses.{not_taken}

pub unreachable-requires : goal.unreachable-requires
unreachable-requires c = not_taken c.args.table.now c.in_ok-name.name c.args.name.now
    c.in_ok-name.ensures c.requires.name
    (c.in-Err-NameTaken.ensures.taken.0 (ap Err c.in-Err-NameTaken.field-0-is))

pub unreachable-requires-in-Err-TooManySlots : goal.unreachable-requires-in-Err-TooManySlots
unreachable-requires-in-Err-TooManySlots c =
    let many = (c.in-Err-TooManySlots.ensures.slots c.in-Err-TooManySlots.field-0-0).0
    (ap Err c.in-Err-TooManySlots.field-0-is) in
    omega (arith, c.requires.slots, many.1, many.2)
