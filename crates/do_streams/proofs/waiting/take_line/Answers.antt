use Rattle.do_streams.proofs.waiting.take_line.Goals as goal
use Rattle.std.proofs.Common.{◌≡◌, ◌∙◌, Some, sym}
use Rattle.do_streams.specs.{Waits.lined, declared.waiting.Queued.TheVariants.{Frame, Line}}
use Rattle.do_streams.proofs.WaitingCells.{lines_here, takes_front}

-- no frame stands among the lines
pub unreachable-requires : goal.unreachable-requires
unreachable-requires c =
    let front = takes_front (λ x. Line x) 1 c.args.cells.now c.take.new.self
    (lined c.args.cells.now) (lines_here c.args.cells.now c.take.new.self c.requires)
    (Some c.in_ok-line.field-0) c.in_ok-line.ensures.item in
    let never : Frame c.in-Frame.field-0 ≡ Line front.0 = sym c.in-Frame.is ∙ front.3 in
    absurd (cc)
