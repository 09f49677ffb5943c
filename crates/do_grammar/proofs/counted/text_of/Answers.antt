use Rattle.do_grammar.proofs.counted.text_of.Goals as goal
use Rattle.std.proofs.Common.{arith}
use Rattle.do_grammar.specs.{Reader.no_kind, Num.{counted_at, CountedText}}
use Rattle.do_grammar.proofs.faults.{AnswerExact.bytes_from_each, RestExact.tells_rest}
use Rattle.do_grammar.proofs.{faults.RestExact.finds_rest, texts.NumExact.Reads-counted_text}

pub returns-clause-exact : goal.returns-clause-exact
returns-clause-exact c =
    tells_rest (CountedText c.args.limit) (counted_at no_kind c.args.limit)
    (Reads-counted_text no_kind c.args.limit c.ranges.limit.fits) (λ x.
    x) c.args.bytes.now c.front_text.result
    (bytes_from_each c.args.bytes.now (λ i. omega (arith, c.type_inv.bytes i))) c.front_text.ensures

pub returns-clause-only : goal.returns-clause-only
returns-clause-only c =
    finds_rest (CountedText c.args.limit) (counted_at no_kind c.args.limit)
    (Reads-counted_text no_kind c.args.limit c.ranges.limit.fits) (λ x.
    x) c.args.bytes.now c.front_text.result c.front_text.ensures
