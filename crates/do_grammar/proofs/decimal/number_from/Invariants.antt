use Rattle.do_grammar.proofs.decimal.number_from.Given as goal
use Rattle.std.proofs.Common.{◌≡◌, ◌≤◌, length}
use Rattle.do_grammar.specs.Dec.{dec_from}

abbrev pub invariant-loop-rest : goal.invariant-loop-rest
invariant-loop-rest l = record {
  same : dec_from l.high l.n l.rest ≡ dec_from l.high 0 l.bytes;
  within : l.n ≤ l.high;
}

abbrev pub decreases-loop-rest : goal.decreases-loop-rest
decreases-loop-rest l = length l.rest
