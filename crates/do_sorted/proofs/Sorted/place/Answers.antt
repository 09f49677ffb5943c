use Rattle.do_sorted.proofs.Sorted.place.Goals as goal
use Rattle.std.proofs.Common.{sym}
use Rattle.do_sorted.proofs.RowOrGap.{first_from_row, first_from_gap}

-- the first row from a key on is the one at which it stands
pub returns-in-Ok : goal.returns-in-Ok
returns-in-Ok g c = sym (first_from_row g.met.K.Ord.total _ _ _ c.in-Ok.ensures.found)

-- a key that stands nowhere would go in front of the first row from it on
pub returns-in-Err : goal.returns-in-Err
returns-in-Err g c = sym (first_from_gap g.met.K.Ord.total _ _ _ c.in-Err.ensures.absent)
