use Rattle.do_cli.proofs.words.+fitting.Given as goal
use Rattle.std.proofs.Common.{length}

abbrev pub decreases-fitting : goal.decreases-fitting
decreases-fitting l = length l.kinds.now
