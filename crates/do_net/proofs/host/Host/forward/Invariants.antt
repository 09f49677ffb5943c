-- What was fetched so far went into the channels and was sent.
use Rattle.do_net.proofs.host.Host.forward.Given as goal
use Rattle.std.proofs.Common.{length}
use Rattle.do_net.{specs.Hosts.hosting, proofs.ForwardLoop.Forwards}

abbrev pub invariant-loop-wire : goal.invariant-loop-wire
invariant-loop-wire g l =
    Forwards (hosting g.S.Hosted.seen l.fn.self) l.fn.wires.items (hosting g.S.Hosted.seen l.self)
    l.wires.items

abbrev pub decreases-loop-wire : goal.decreases-loop-wire
decreases-loop-wire g l = length (g.S.Hosted.seen l.self.site).frames
