use Rattle.do_streams.proofs.reading.read_by.Goals as goal
use Rattle.std.proofs.Common.{subst}
use Rattle.do_grammar.specs.Grammar.{IsBytes}
use Rattle.do_streams.proofs.FramesTold.{told_is_read}

-- an answer that tells what is spelled is what is read
pub returns-clause-read : goal.returns-clause-read
returns-clause-read c =
    told_is_read c.args.table.now c.count-classes.ensures.table c.args.from c.args.to
    c.args.names.now c.len-few.ensures.recent c.requires.known c.args.raw.now
    (subst IsBytes c.as_slice.ensures c.are_bytes.ensures) c.read_raw.result
    c.read_raw.ensures.exact c.read_raw.ensures.only
