use Rattle.do_record.proofs.reading.record_in.Goals as goal
use Rattle.std.proofs.Common.{◌∙◌, ◌+◌, sym}
use Rattle.do_record.{specs.Recorded.record_of, proofs.records.Showing.behind_end}

pub returns-in-End : goal.returns-in-End
returns-in-End c =
    behind_end (record_of c.args.bytes.now) c.in-Some-first_port.port (c.loop-text.number + 1)
    c.loop-text.blocks (record { text = c.in-Some-line_of.text.now; fed = c.in-Some-line_of.fed })
    c.loop-text.rest.now c.in-Some-line_of.after.now c.loop-text.invariant.reads
    c.in-Some-line_of.ensures.line (sym c.in_ok-text_of.ensures ∙ c.in-End.is)
    c.if-is_empty.ensures
