use Rattle.do_check.proofs.forward.first_locals.Given as goal
use Rattle.std.proofs.Common.{◌≡◌}
use Rattle.do_check.specs.Acts.{firsts}

abbrev pub invariant-loop-k : goal.invariant-loop-k
invariant-loop-k l = l.from ≡ firsts l.k
