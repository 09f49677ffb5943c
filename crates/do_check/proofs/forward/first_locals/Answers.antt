use Rattle.do_check.proofs.forward.first_locals.Goals as goal
use Rattle.std.proofs.{Common.arith, lemmas.Grind.common_steps}
use Rattle.do_check.specs.laws.FirstLocals.{firsts_more}

pub loop-k-preserved : goal.loop-k-preserved
loop-k-preserved c = grind (arith, common_steps, firsts_more)
