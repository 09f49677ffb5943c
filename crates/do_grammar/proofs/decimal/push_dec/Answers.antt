use Rattle.do_grammar.proofs.decimal.push_dec.Goals as goal
use Rattle.do_grammar.proofs.loops.PartlyAdded.{added_nothing}
use Rattle.std.specs.Fmt.{decimal}

pub returns-clause-partly : goal.returns-clause-partly
returns-clause-partly c =
    added_nothing c.push_bytes.result c.args.out.now (decimal c.args.n) c.push_bytes.new.self
    c.push_bytes.ensures.err
