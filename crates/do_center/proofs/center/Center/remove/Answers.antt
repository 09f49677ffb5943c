use Rattle.do_center.proofs.center.Center.remove.Goals as goal
use Rattle.std.proofs.Common.{◌≡◌, true, sym, subst}
use Rattle.do_center.specs.{Removing.goes, Seats.are_seats}
use Rattle.do_center.proofs.{CoreKept.{core_parts, core_from}, RemovedKept.left_kept}

pub invariant_of-self : goal.invariant_of-self
invariant_of-self c =
    let ss = c.self.inside.seats in
    let os = c.self.inside.suspended in
    let o = c.args.observer in
    let parts = core_parts ss os c.self.invariant in
    core_from c.in_ok-left.left os
    (subst (λ xs. are_seats xs ≡ true) (sym c.in_ok-left.ensures)
    (left_kept (goes o c.args.name c.args.object) o ss parts.0)) parts.1
