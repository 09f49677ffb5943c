use Rattle.do_lines.proofs.check.+push_slots.Given as goal
use Rattle.std.proofs.Common.{length}

abbrev pub decreases-push_slots : goal.decreases-push_slots
decreases-push_slots l = length l.slots.now
