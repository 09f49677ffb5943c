use Rattle.do_center.proofs.center.Center.suspend.Goals as goal
use Rattle.std.proofs.Common.{◌≡◌, true, sym, ◌∙◌, ap, subst}
use Rattle.do_center.specs.{Queues.with_queue, Seats.{are_seats, are_suspended}}
use Rattle.do_center.proofs.CoreKept.{core_parts, core_from, cleared_kept, resumed_kept}

pub invariant_of-self : goal.invariant_of-self
invariant_of-self c =
    let ss = c.self-2.inside.seats in
    let os = c.self-2.inside.suspended in
    let o = c.args.observer in
    let parts = core_parts ss os c.self-2.invariant in
    core_from c.replace_queue.new.seats c.remove.new.self
    (subst (λ xs. are_seats xs ≡ true)
    (sym (c.replace_queue.ensures.left ∙ ap (with_queue ss o) c.new-none.ensures))
    (cleared_kept ss o parts.0))
    (subst (λ xs. are_suspended xs ≡ true) (sym c.remove.ensures) (resumed_kept os o parts.1))
