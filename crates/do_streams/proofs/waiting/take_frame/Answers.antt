use Rattle.do_streams.proofs.waiting.take_frame.Goals as goal
use Rattle.std.proofs.Common.{◌≡◌, ◌∙◌, Some, sym}
use Rattle.do_streams.specs.{Waits.framed, declared.waiting.Queued.TheVariants.{Frame, Line}}
use Rattle.do_streams.proofs.WaitingCells.{frames_here, takes_front}

-- no line stands among the frames
pub unreachable-requires : goal.unreachable-requires
unreachable-requires c =
    let front = takes_front (λ x. Frame x) 0 c.args.cells.now c.take.new.self
    (framed c.args.cells.now) (frames_here c.args.cells.now c.take.new.self c.requires)
    (Some c.in_ok-frame.field-0) c.in_ok-frame.ensures.item in
    let never : Line c.in-Line.field-0 ≡ Frame front.0 = sym c.in-Line.is ∙ front.3 in
    absurd (cc)
