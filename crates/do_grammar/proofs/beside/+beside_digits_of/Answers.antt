use Rattle.do_grammar.proofs.beside.+beside_digits_of.Goals as goal
use Rattle.std.proofs.Common.{rules}
use Rattle.do_grammar.proofs.loops.BesideLoop.{too_high}

pub returns-then-next-from-clause-gives : goal.returns-then-next-from-clause-gives
returns-then-next-from-clause-gives t c =
    too_high c.args.holes.now c.args.low c.args.high c.args.least c.args.k c.in-Some.b
    c.args.bytes.now c.in-Some.after.now (search rules) c.in-Some.ensures (search rules)
