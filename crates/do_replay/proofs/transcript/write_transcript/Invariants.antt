-- What was sent, what waits and what the lines that are left come to make up the transcript; in the
-- lines that were done all that was sent has a spelling; the network stands, and nothing that was
-- sent is left.
use Rattle.do_replay.proofs.transcript.write_transcript.Given as goal
use Rattle.std.{proofs.Common.{◌≡◌, ◌≤◌, []}, specs.Vec.Iter.into_iter_items}
use Rattle.do_net.specs.Net.{Stands, network}
use Rattle.do_output.proofs.SentIsPrefix.{IsAhead}
use Rattle.do_replay.specs.Replayed.{wired_from}
use Rattle.do_replay.proofs.{BlocksToCome.rest_from, SpelledSoFar.SpelledSoFar}

abbrev pub invariant-loop-line : goal.invariant-loop-line
invariant-loop-line g l =
    let seen = g.S.Hosted.seen in
    let act = g.S.Acts.Behaviour.act l.fn.net.acts in
    let left = into_iter_items l.line-iterator in
    record {
      written : IsAhead (g.K.Sink.written l.fn.out) (g.K.Sink.written l.out) l.waiting
          (rest_from l.fn.table act (network seen l.net) left)
          (wired_from l.fn.table act (network seen l.fn.net) l.fn.lines);
      spelled : SpelledSoFar l.fn.table act (network seen l.fn.net) l.fn.lines
          (network seen l.net) left;
      later : g.K.Sink.faults l.fn.out ≤ g.K.Sink.faults l.out;
      stands : Stands seen (g.S.Acts.Behaviour.act l.net.acts) l.net;
      table : l.net.table ≡ l.fn.table;
      acts : l.net.acts ≡ l.fn.net.acts;
      sent : l.net.wires.items ≡ [];
    }
