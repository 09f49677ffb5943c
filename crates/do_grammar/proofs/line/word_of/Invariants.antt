use Rattle.do_grammar.proofs.line.word_of.Given as goal
use Rattle.std.proofs.Common.{take}
use Rattle.do_grammar.specs.Words.{Without}

abbrev pub invariant-loop-n : goal.invariant-loop-n
invariant-loop-n l = Without l.end (take l.n l.bytes)
