use Rattle.text_calls.proofs.pairs.read_pair.Goals as goal
use Rattle.std.proofs.Common.{arith}
use Rattle.do_grammar.specs.Reader.{no_kind, short, bad}
use Rattle.text_calls.specs.Pair.{Pair, pair_at}
use Rattle.do_grammar.proofs.faults.AnswerExact.{bytes_from_each, found, found_only, not_stopped}
use Rattle.do_grammar.proofs.faults.AnswerExact.{proper_front, first_bad, left_within}
use Rattle.text_calls.proofs.PairExact.{Reads-pair}

pub overflow_sub-result : goal.overflow_sub-result
overflow_sub-result c =
    (found Pair (pair_at no_kind) (Reads-pair no_kind) c.args.bytes.now c.in-Ok.pair
    c.in-Ok.rest.now (bytes_from_each c.args.bytes.now (λ i. omega (arith, c.type_inv.bytes i)))
    c.in-Ok.ensures).0

pub overflow_sub-result-in-Err-Bad : goal.overflow_sub-result-in-Err-Bad
overflow_sub-result-in-Err-Bad c =
    left_within Pair (pair_at no_kind) (Reads-pair no_kind) c.args.bytes.now no_kind
    c.in-Err-Bad.left (bytes_from_each c.args.bytes.now (λ i. omega (arith, c.type_inv.bytes i)))
    (rw c.in-Err-Bad.field-0-is at c.in-Err-Bad.ensures)

pub returns-in-Ok-clause-exact : goal.returns-in-Ok-clause-exact
returns-in-Ok-clause-exact c =
    let f = found Pair (pair_at no_kind) (Reads-pair no_kind) c.args.bytes.now c.in-Ok.pair
    c.in-Ok.rest.now (bytes_from_each c.args.bytes.now (λ i. omega (arith, c.type_inv.bytes i)))
    c.in-Ok.ensures in
    (omega arith, f.1)

pub returns-in-Ok-clause-only : goal.returns-in-Ok-clause-only
returns-in-Ok-clause-only c =
    found_only Pair (pair_at no_kind) (Reads-pair no_kind) c.args.bytes.now c.in-Ok.pair
    c.in-Ok.rest.now c.in-Ok.ensures

pub returns-in-Err-Short-clause-exact : goal.returns-in-Err-Short-clause-exact
returns-in-Err-Short-clause-exact c =
    proper_front Pair (pair_at no_kind) (Reads-pair no_kind) c.args.bytes.now
    (bytes_from_each c.args.bytes.now (λ i. omega (arith, c.type_inv.bytes i)))
    (rw c.in-Err-Short.field-0-is at c.in-Err-Short.ensures)

pub returns-in-Err-Short-clause-only : goal.returns-in-Err-Short-clause-only
returns-in-Err-Short-clause-only c =
    not_stopped Pair (pair_at no_kind) (Reads-pair no_kind) c.args.bytes.now short
    (rw c.in-Err-Short.field-0-is at c.in-Err-Short.ensures)

pub returns-in-Err-Bad-clause-exact : goal.returns-in-Err-Bad-clause-exact
returns-in-Err-Bad-clause-exact c =
    first_bad Pair (pair_at no_kind) (Reads-pair no_kind) c.args.bytes.now no_kind c.in-Err-Bad.left
    (bytes_from_each c.args.bytes.now (λ i. omega (arith, c.type_inv.bytes i)))
    (rw c.in-Err-Bad.field-0-is at c.in-Err-Bad.ensures)

pub returns-in-Err-Bad-clause-only : goal.returns-in-Err-Bad-clause-only
returns-in-Err-Bad-clause-only c =
    not_stopped Pair (pair_at no_kind) (Reads-pair no_kind) c.args.bytes.now
    (bad no_kind c.in-Err-Bad.left) (rw c.in-Err-Bad.field-0-is at c.in-Err-Bad.ensures)
