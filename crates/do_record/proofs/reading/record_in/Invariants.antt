use Rattle.do_record.proofs.reading.record_in.Given as goal
use Rattle.std.proofs.Common.{◌≡◌, ◌+◌, ◌≤◌, length}
use Rattle.do_grammar.specs.Lines.{cut}
use Rattle.do_record.specs.Recorded.{read_lines, record_of}

abbrev pub invariant-loop-text : goal.invariant-loop-text
invariant-loop-text l = record {
  reads : record_of l.bytes ≡ read_lines l.port (l.number + 1) l.blocks (cut l.rest);
  within : l.number + length l.rest ≤ length l.bytes;
}

abbrev pub decreases-loop-text : goal.decreases-loop-text
decreases-loop-text l = length l.rest
