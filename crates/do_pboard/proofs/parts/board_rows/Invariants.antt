use Rattle.do_pboard.proofs.parts.board_rows.Given as goal
use Rattle.std.proofs.Common.{◌≡◌, take}

abbrev pub invariant-loop-at : goal.invariant-loop-at
invariant-loop-at l = l.rows ≡ take l.at l.boards
