use Rattle.do_pboard.proofs.types.merge.Goals as goal
use Rattle.std.proofs.{Common.arith, lemmas.Grind.common_steps}
use Rattle.do_pboard.proofs.MergedRows.{merged_left}

pub returns-else-used-rows : goal.returns-else-used-rows
returns-else-used-rows c = grind (arith, common_steps, merged_left)
