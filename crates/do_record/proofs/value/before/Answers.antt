use Rattle.do_record.proofs.value.before.Goals as goal
use Rattle.std.proofs.Common.{arith, ap, length, length-append}

pub returns-clause-within : goal.returns-clause-within
returns-clause-within c = omega (
  arith,
  ap length c.part_of.ensures.parts,
  length-append c.part_of.result.0.now c.part_of.result.1.now,
)
