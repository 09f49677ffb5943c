use Rattle.do_frames.proofs.stream.pieces.take_all.Given as goal
use Rattle.std.proofs.Common.{ℕ, List, length}
use Rattle.do_frames.specs.Pieces.{HasRead}

-- what was read of any stream before was read of it still
abbrev pub invariant-loop-frame : goal.invariant-loop-frame
invariant-loop-frame l =
    (fed : List ℕ) → HasRead fed l.fn.frames l.fn.reader → HasRead fed l.frames l.reader

abbrev pub decreases-loop-frame : goal.decreases-loop-frame
decreases-loop-frame l = length l.reader.rest
