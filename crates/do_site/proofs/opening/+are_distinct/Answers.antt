use Rattle.do_site.proofs.opening.+are_distinct.Goals as goal
use Rattle.std.proofs.Common.{sym}
use Rattle.do_site.proofs.DistinctPorts.{more_distinct}

pub returns-then-not-is_among : goal.returns-then-not-is_among
returns-then-not-is_among t c = λ h.
    more_distinct c.args.peers.now c.in-Some.rest.now c.in-Some.first.now
    c.in-Some.ensures.cases.0 (sym c.if-not-is_among.ensures) (c.are_distinct.ensures h)
