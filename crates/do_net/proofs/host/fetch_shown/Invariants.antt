-- What was fetched so far was shown.
use Rattle.do_net.proofs.host.fetch_shown.Given as goal
use Rattle.std.proofs.Common.{length}
use Rattle.do_net.proofs.ShowLoop.{Shows}

abbrev pub invariant-loop-line : goal.invariant-loop-line
invariant-loop-line g l =
    Shows (g.S.Hosted.seen l.fn.site) l.fn.shown (g.S.Hosted.seen l.site) l.shown

abbrev pub decreases-loop-line : goal.decreases-loop-line
decreases-loop-line g l = length (g.S.Hosted.seen l.site).shown
