use Rattle.do_native_acts.proofs.steps.changes.Goals as goal
use Rattle.std.proofs.{Common.arith, lemmas.Grind.common_steps}
use Rattle.do_native_acts.proofs.ChangesEnd.{changes_end}

pub returns : goal.returns
returns c = grind (arith, common_steps, changes_end)
