use Rattle.do_site.proofs.work.Work.take_frame.Goals as goal
use Rattle.std.proofs.Common.{◌∙◌, sym}
use Rattle.do_site.proofs.FramesTaken.{refused_came, taken_came}

-- the end towards the peer is closed
pub returns-in-Some-clause-done : goal.returns-in-Some-clause-done
returns-in-Some-clause-done c act =
    let old = c.args.self.now.core in
    let frame = c.args.reading.frame in
    refused_came c.args.table.now act old c.refuse.new.self.core c.args.from frame c.in-Some.fault
    _ (sym c.peer_fault.ensures ∙ c.in-Some.is)
    (c.in_ok-refuse.ensures.ok frame c.requires.read)

-- a frame that the peer may send is taken
pub returns-clause-done : goal.returns-clause-done
returns-clause-done c act =
    taken_came c.args.table.now act c.args.self.now.core c.take_allowed.new.self.core c.args.from
    c.args.reading.frame _ (sym c.peer_fault.ensures ∙ c.in_default.is)
    c.in_ok-take_allowed.ensures.ok
