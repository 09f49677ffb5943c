use Rattle.do_sig.proofs.types.count.+digits_from.Given as goal
use Rattle.std.proofs.Common.{length}

abbrev pub decreases-digits_from : goal.decreases-digits_from
decreases-digits_from l = length l.bytes.now
