use Rattle.do_document.proofs.classes.add.Goals as goal
use Rattle.std.proofs.Common.{ap, arith, Err}

pub unreachable-requires-in-Err-TooManySlots : goal.unreachable-requires-in-Err-TooManySlots
unreachable-requires-in-Err-TooManySlots c =
    let many = (c.in-Err-TooManySlots.ensures.slots c.in-Err-TooManySlots.field-0-0).0
    (ap Err c.in-Err-TooManySlots.field-0-is) in
    omega (arith, c.requires.slots, many.1, many.2)
