use Rattle.do_center.proofs.center.Center.add.Goals as goal
use Rattle.std.proofs.Common.{◌≡◌, ◌<◌, true, ◌++◌, ◌∷◌, [], length, sym, ◌∙◌, ap, subst, arith}
use Rattle.std.proofs.lemmas.Grind.{common_steps}
use Rattle.do_center.{specs.Seats.are_seats, proofs.CoreKept.{core_parts, core_from, added_kept}}

pub invariant_of-self-2 : goal.invariant_of-self-2
invariant_of-self-2 c =
    let ss = c.self.inside.seats in
    let r = c.args.registration in
    let parts = core_parts ss c.self.inside.suspended c.self.invariant in
    let few : length ss < 256 = grind (arith, common_steps) in
    let is = c.in_ok-push.ensures.ok
    ∙ ap (λ q. ss ++ record { registration = r; queue = q } ∷ []) c.new-queue.ensures in
    core_from c.push.new.self c.self.inside.suspended
    (subst (λ xs. are_seats xs ≡ true) (sym is) (added_kept ss r few c.requires parts.0)) parts.1
