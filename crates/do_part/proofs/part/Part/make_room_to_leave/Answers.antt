use Rattle.do_part.proofs.part.Part.make_room_to_leave.Goals as goal
use Rattle.std.{proofs.Common.{◌+◌, ◌≤◌, ℕ, subst, sym, vec_capacity}, specs.Prelude.OnOk}
use Rattle.do_part.proofs.HeldRows.{held_len}

-- there is room for each object that is held, and for so many more
pub returns-clause-left : goal.returns-clause-left
returns-clause-left c =
    rw (← c.self.view_is) (subst (λ (n : ℕ). OnOk c.make_room.result
    (n + c.args.received ≤ vec_capacity c.make_room.new.left))
    (sym (held_len c.self.inside.holders.imports.received)) c.make_room.ensures.left)
