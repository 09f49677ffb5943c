use Rattle.do_grammar.proofs.quoted.push_inside.Goals as goal
use Rattle.do_grammar.{specs.Quoted.quoted_byte, proofs.loops.PartlyAdded.added_piece}

pub returns-in_err-push_byte-clause-partly : goal.returns-in_err-push_byte-clause-partly
returns-in_err-push_byte-clause-partly c =
    added_piece c.from_residual.result c.args.out.now c.loop-byte.out c.push_byte.new.out
    quoted_byte c.args.text.now c.loop-byte.byte-index 0 c.loop-byte-test.true c.loop-byte.invariant
    c.in_err-push_byte.ensures.partly
