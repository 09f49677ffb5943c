use Rattle.do_center.proofs.center.Center.post.Goals as goal
use Rattle.std.proofs.Common.{◌≡◌, true, sym, subst}
use Rattle.do_center.specs.{Seats.are_seats, declared.posting.Posting.Posting}
use Rattle.do_center.proofs.CoreKept.{core_parts, core_from, posted_kept}

pub invariant_of-self : goal.invariant_of-self
invariant_of-self c =
    let ss = c.self.inside.seats in
    let os = c.self.inside.suspended in
    let parts = core_parts ss os c.self.invariant in
    core_from c.in_ok-after.after.seats os
    (subst (λ (p : Posting). are_seats p.seats ≡ true) (sym c.in_ok-after.ensures)
    (posted_kept ss c.args.note.now c.args.immediate os c.requires parts.0)) parts.1
