use Rattle.do_part.proofs.part.Part.serials_are_apart.Goals as goal
use Rattle.std.proofs.Common.{◌≡◌, Some, subst}
use Rattle.do_machine.specs.{Lists.IsIn, State.stored, declared.node.Stored.Stored}
use Rattle.do_part.{specs.Owned.Owned, proofs.Lookups.serials-apart}

-- serials rise, so an object is found under its own
pub returns : goal.returns
returns c =
    subst (λ (v : Owned). (x : Stored) → IsIn v.own.node.heap x
    → stored x.serial v.own.node.heap ≡ Some x) c.self.view_is
    (serials-apart c.self.inside c.self.invariant)
