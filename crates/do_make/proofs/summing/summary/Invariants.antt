-- What was counted so far, with the lines that are left, is the summary of all; in the lines that
-- were done all that was sent has a spelling; the network stands, and of what was sent nothing is
-- left.
use Rattle.do_make.proofs.summing.summary.Given as goal
use Rattle.std.{proofs.Common.{◌≡◌, []}, specs.Vec.Iter.into_iter_items}
use Rattle.do_net.specs.Net.{Stands, network}
use Rattle.do_network.specs.Wired.{net_blocks}
use Rattle.do_replay.proofs.SpelledSoFar.{SpelledSoFar}
use Rattle.do_make.{specs.Summary.summary_of, proofs.LinesSummed.summed}

abbrev pub invariant-loop-line : goal.invariant-loop-line
invariant-loop-line g l =
    let seen = g.S.Hosted.seen in
    let act = g.S.Acts.Behaviour.act l.fn.net.acts in
    record {
      so_far : summed l.sum (net_blocks l.fn.net.table act (network seen l.net)
          (into_iter_items l.line-iterator))
          ≡ summary_of (net_blocks l.fn.net.table act (network seen l.fn.net) l.fn.lines);
      spelled : SpelledSoFar l.fn.net.table act (network seen l.fn.net) l.fn.lines
          (network seen l.net) (into_iter_items l.line-iterator);
      table : l.net.table ≡ l.fn.net.table;
      acts : l.net.acts ≡ l.fn.net.acts;
      stands : Stands seen (g.S.Acts.Behaviour.act l.net.acts) l.net;
      sent : l.net.wires.items ≡ [];
    }
