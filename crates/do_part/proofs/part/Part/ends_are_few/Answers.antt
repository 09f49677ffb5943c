use Rattle.do_part.proofs.part.Part.ends_are_few.Goals as goal
use Rattle.std.proofs.Common.{◌≤◌, length, subst}
use Rattle.do_part.specs.Owned.{Owned}

-- few ends are open at first, and none is opened
pub returns : goal.returns
returns c =
    subst (λ (v : Owned). length v.own.node.open_to ≤ 64) c.self.view_is c.self.invariant.small
