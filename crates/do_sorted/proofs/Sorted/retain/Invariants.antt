use Rattle.do_sorted.proofs.Sorted.retain.Given as goal
use Rattle.std.proofs.Common.{◌≡◌, ◌+◌, ◌-◌, ◌≤◌, length}
use denote.Param.Always.{always_mut}
use Rattle.std.specs.Fn.{CalledAt}
use Rattle.do_sorted.proofs.Retained.{Retaining}

-- the rows up to the place were tested, those behind it stand as at first, and none of the room
-- is lost
abbrev pub invariant-loop-at : goal.invariant-loop-at
invariant-loop-at g l =
    (always_mut g.F.FnMut l.initial.keep → always_mut g.F.FnMut l.keep)
    × Retaining (CalledAt g.F.FnMut) l.initial.keep l.initial.self.rows l.keep l.self.rows l.at
    × (length l.self.rows + l.self.spare ≡ length l.initial.self.rows + l.initial.self.spare)
    × (l.at ≤ length l.self.rows) × (l.initial.self.spare ≤ l.self.spare)

-- each turn passes over a row or takes one out
abbrev pub decreases-loop-at : goal.decreases-loop-at
decreases-loop-at g l = length l.self.rows - l.at
