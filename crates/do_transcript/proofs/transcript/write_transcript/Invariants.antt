-- What was sent, what waits and what the lines that are left come to make up the transcript.
use Rattle.do_transcript.proofs.transcript.write_transcript.Given as goal
use Rattle.std.{proofs.Common.◌≤◌, specs.Vec.Iter.into_iter_items}
use Rattle.do_transcript.{specs.Transcript.transcript_from, proofs.BlocksToCome.rest_from}
use Rattle.do_output.proofs.SentIsPrefix.{IsAhead}

abbrev pub invariant-loop-line : goal.invariant-loop-line
invariant-loop-line g l = record {
  written : IsAhead (g.K.Sink.written l.fn.out) (g.K.Sink.written l.out) l.waiting
      (rest_from l.local.table (g.B.Behaviour.act l.local.behaviour) l.local.state
      (into_iter_items l.line-iterator))
      (transcript_from l.fn.local.table (g.B.Behaviour.act l.fn.local.behaviour) l.fn.local.state
      l.fn.lines);
  later : g.K.Sink.faults l.fn.out ≤ g.K.Sink.faults l.out;
}
