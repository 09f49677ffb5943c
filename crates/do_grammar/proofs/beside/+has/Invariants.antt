use Rattle.do_grammar.proofs.beside.+has.Given as goal
use Rattle.std.proofs.Common.{length}

abbrev pub decreases-has : goal.decreases-has
decreases-has l = length l.holes.now
