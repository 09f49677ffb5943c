use Rattle.do_sig.proofs.encoding.encoding_of.Goals as goal
use Rattle.std.proofs.Common.{arith}
use Rattle.do_grammar.proofs.faults.AnswerExact.{bytes_from_each}
use Rattle.do_sig.proofs.EncodingPrinted.{encoding_lawful}

pub invariant_of-encoding : goal.invariant_of-encoding
invariant_of-encoding c =
    encoding_lawful c.args.place c.args.bytes.now c.in_ok-qualifiers.rest.now
    c.in_ok-value_type.rest.now c.in_ok-qualifiers.qualifiers c.in_ok-value_type.value_type
    (bytes_from_each c.args.bytes.now (λ i. omega (arith, c.type_inv.bytes i)))
    c.in_ok-qualifiers.ensures.gives c.in_ok-value_type.ensures.gives
