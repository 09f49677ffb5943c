use Rattle.do_grammar.proofs.beside.+next_free.Given as goal
use Rattle.std.proofs.Common.{◌-◌}

abbrev pub decreases-next_free : goal.decreases-next_free
decreases-next_free l = l.high - l.from
