use Rattle.do_grammar.proofs.number.num_of.Goals as goal
use Rattle.std.proofs.Common.{arith}
use Rattle.do_grammar.specs.{Reader.no_kind, Num.{num_at, Num}}
use Rattle.do_grammar.proofs.faults.AnswerExact.{bytes_from_each}
use Rattle.do_grammar.proofs.{faults.RestExact.{tells_rest, finds_rest}, texts.NumExact.Reads-num}

pub returns-clause-exact : goal.returns-clause-exact
returns-clause-exact c =
    tells_rest (Num c.args.low c.args.high) (num_at no_kind c.args.low c.args.high)
    (Reads-num no_kind c.args.low c.args.high c.requires c.ranges.high.fits) (λ x.
    x) c.args.bytes.now c.front_num.result
    (bytes_from_each c.args.bytes.now (λ i. omega (arith, c.type_inv.bytes i)))
    c.front_num.ensures.gives

pub returns-clause-only : goal.returns-clause-only
returns-clause-only c =
    finds_rest (Num c.args.low c.args.high) (num_at no_kind c.args.low c.args.high)
    (Reads-num no_kind c.args.low c.args.high c.requires c.ranges.high.fits) (λ x.
    x) c.args.bytes.now c.front_num.result c.front_num.ensures.gives
