use Rattle.do_grammar.proofs.signed.signed_of.Goals as goal
use Rattle.std.proofs.Common.{arith}
use Rattle.do_grammar.specs.{Reader.no_kind, Num.{signed_at, Signed}}
use Rattle.do_grammar.proofs.faults.{AnswerExact.bytes_from_each, RestExact.tells_rest}
use Rattle.do_grammar.proofs.{faults.RestExact.finds_rest, texts.NumExact.Reads-signed}

pub returns-clause-exact : goal.returns-clause-exact
returns-clause-exact c =
    tells_rest Signed (signed_at no_kind) (Reads-signed no_kind) (λ x.
    x) c.args.bytes.now c.front_signed.result
    (bytes_from_each c.args.bytes.now (λ i. omega (arith, c.type_inv.bytes i)))
    c.front_signed.ensures.gives

pub returns-clause-only : goal.returns-clause-only
returns-clause-only c =
    finds_rest Signed (signed_at no_kind) (Reads-signed no_kind) (λ x.
    x) c.args.bytes.now c.front_signed.result c.front_signed.ensures.gives
