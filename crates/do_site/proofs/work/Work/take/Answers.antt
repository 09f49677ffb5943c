use Rattle.do_site.proofs.work.Work.take.Goals as goal
use Rattle.std.proofs.Common.{◌≡◌, ◌∙◌, true, Ok, Err, Some, refl, subst, sym}
use Rattle.do_frames.specs.declared.fault.RawFault.{RawFault}
use Rattle.do_machine.specs.{ends.Closing.closing, take.Take.can_take}
use Rattle.do_network.specs.{Faults.peer_fault, Frames.read_frame, Links.having_read}
use Rattle.do_network.specs.{Site.takes_frame, declared.fault.PeerFault.TheVariants.BadFrame}
use Rattle.do_network.specs.declared.input.Done.TheVariants.{Closed}
use Rattle.do_streams.specs.Reading.{IsReading, names_of}
use Rattle.std.specs.declared.alloc.AllocError.{AllocError}
use Rattle.do_site.specs.{Steps.{Handles, Moves, part_of, seen_of}, declared.work.Work.Work}
use Rattle.do_site.proofs.FramesTaken.{bad_came, read_came, skipped_came}

-- an input that the site cannot take is passed
pub returns-then-not-can_take-clause-done : goal.returns-then-not-can_take-clause-done
returns-then-not-can_take-clause-done c act =
    let old = c.args.self.now.core in
    skipped_came c.args.table.now act old old c.args.from c.args.raw.now
    (sym c.can_take.ensures ∙ c.if-not-can_take.true) refl

-- a frame that was read is taken
pub returns-in-Ok-clause-done : goal.returns-in-Ok-clause-done
returns-in-Ok-clause-done c act =
    let table = c.args.table.now in
    let from = c.args.from in
    let frame = c.in-Ok.reading.frame in
    let can : can_take from c.args.self.now.core.part.own.node ≡ true =
    sym c.can_take.ensures ∙ c.if-not-can_take.false in
    read_came table act c.args.self.now.core c.take_frame.new.self.core from AllocError
    c.args.raw.now c.take_frame.result (Ok frame) can c.in-Ok.ensures.read.0
    (subst (λ (w : Work). Handles (seen_of table act w.core)
    (seen_of table act c.take_frame.new.self.core) c.take_frame.result
    (Some (takes_frame table (having_read from frame (part_of w.core)) from frame
    (peer_fault w.core.part.own from frame)))) c.read.ensures.same (c.take_frame.ensures.done act))

-- where none was read, the end towards the peer is closed
pub returns-in_ok-close-in-Err-BadFrame-clause-done :
    goal.returns-in_ok-close-in-Err-BadFrame-clause-done
returns-in_ok-close-in-Err-BadFrame-clause-done c act =
    let old = c.args.self.now.core in
    let from = c.args.from in
    let place = c.in-Err-BadFrame.place in
    let names = names_of old.streams.links from in
    let can : can_take from old.part.own.node ≡ true =
    sym c.can_take.ensures ∙ c.if-not-can_take.false in
    let read = subst (λ (fault : RawFault). IsReading names (read_frame c.args.table.now from
    old.part.own.node.port names c.args.raw.now) (Err fault)) c.in-Err-BadFrame.field-0-is
    c.in-Err-BadFrame.ensures.read in
    read_came c.args.table.now act old c.close.new.self.core from AllocError c.args.raw.now
    (Ok (Closed from (BadFrame place))) (Err place) can read
    (bad_came c.args.table.now act old c.close.new.self.core from place
    (subst (λ (w : Work). Moves w.core c.close.new.self.core (closing from w.core.part.own.node))
    c.read.ensures.same c.in_ok-close-in-Err-BadFrame.ensures.ok))
