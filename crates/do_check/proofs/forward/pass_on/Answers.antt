use Rattle.do_check.proofs.forward.pass_on.Goals as goal
use Rattle.std.proofs.Common.{arith}
use Rattle.do_check.specs.laws.FirstLocals.{few_colons}

pub first_locals-requires : goal.first_locals-requires
first_locals-requires c =
    omega (arith, few_colons c.args.selector.now c.requires, c.count_colons.ensures)
