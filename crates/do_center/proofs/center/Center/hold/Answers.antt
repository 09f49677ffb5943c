use Rattle.do_center.proofs.center.Center.hold.Goals as goal
use Rattle.std.proofs.Common.{◌≡◌, ◌<◌, true, false, length, sym, subst, arith}
use Rattle.std.proofs.lemmas.Grind.{common_steps}
use Rattle.do_center.specs.{Observers.has_object, Seats.are_suspended}
use Rattle.do_center.proofs.CoreKept.{core_parts, core_from, suspended_kept}

pub invariant_of-self-2 : goal.invariant_of-self-2
invariant_of-self-2 c =
    let os = c.self.inside.suspended in
    let parts = core_parts c.self.inside.seats os c.self.invariant in
    let few : length os < 256 = grind (arith, common_steps) in
    let absent : has_object os c.args.observer ≡ false = grind (arith, common_steps) in
    core_from c.self.inside.seats c.push.new.self parts.0
    (subst (λ xs. are_suspended xs ≡ true) (sym c.in_ok-push.ensures.ok)
    (suspended_kept os c.args.observer few absent parts.1))
