use Rattle.do_import.proofs.by_object.ByObject.set.Goals as goal
use Rattle.std.proofs.Common.{refl, subst, IsSome}
use Rattle.do_export.proofs.Order.{put_is, found_is}

-- there is a row of the object
pub set-requires : goal.set-requires
set-requires g c =
    let found =
    found_is c.self.inside.rows.rows c.self.invariant c.args.home c.args.home c.args.serial refl in
    subst IsSome found (rw (← c.self.view_is) at c.requires)

-- the rows with another value are still in their order
pub invariant_of-self : goal.invariant_of-self
invariant_of-self g c =
    (put_is c.self.inside.rows.rows _ c.self.invariant c.args.home c.args.home c.args.serial refl _
    c.set.ensures.after).0

-- the object has the value
pub returns-clause-rows : goal.returns-clause-rows
returns-clause-rows g c =
    rw (← c.self.view_is)
    (put_is c.self.inside.rows.rows _ c.self.invariant c.args.home c.args.home c.args.serial refl _
    c.set.ensures.after).1
