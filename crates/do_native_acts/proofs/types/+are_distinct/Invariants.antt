use Rattle.do_native_acts.proofs.types.+are_distinct.Given as goal
use Rattle.std.proofs.Common.{length}

abbrev pub decreases-are_distinct : goal.decreases-are_distinct
decreases-are_distinct l = length l.texts.now
