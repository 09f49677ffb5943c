use Rattle.do_grammar.proofs.beside.slow_num.Goals as goal
use Rattle.std.proofs.Common.{rules}
use Rattle.do_grammar.proofs.loops.BesideLoop.{size_long, size_none, size_beyond}

pub returns-then-n-gt8-clause-gives : goal.returns-then-n-gt8-clause-gives
returns-then-n-gt8-clause-gives c =
    size_long c.args.holes.now c.args.low c.args.high c.in-Some.n c.args.bytes.now
    c.in-Some.rest.now c.in-Some.ensures (search rules)

pub returns-else-from-span_of-clause-gives : goal.returns-else-from-span_of-clause-gives
returns-else-from-span_of-clause-gives c =
    size_beyond c.args.holes.now c.args.low c.args.high c.in-Some.n c.args.bytes.now
    c.in-Some.rest.now c.in-Some.ensures (search rules)

pub returns-in-None-clause-gives : goal.returns-in-None-clause-gives
returns-in-None-clause-gives c =
    size_none c.args.holes.now c.args.low c.args.high c.in-Some.n c.args.bytes.now
    c.in-Some.rest.now c.in-Some.ensures (search rules)
