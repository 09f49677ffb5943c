use Rattle.do_import.proofs.by_object.ByObject.remove.Goals as goal
use Rattle.std.proofs.Common.{refl}
use Rattle.do_export.proofs.Order.{without_is}

-- the rows without one are still in their order
pub invariant_of-self : goal.invariant_of-self
invariant_of-self g c =
    let rows = c.self.inside.rows.rows in
    (without_is rows _ c.self.invariant c.args.home c.args.home c.args.serial refl
    c.remove.ensures.after).0

-- the object is taken out
pub returns-clause-rows : goal.returns-clause-rows
returns-clause-rows g c =
    let rows = c.self.inside.rows.rows in
    rw (← c.self.view_is)
    (without_is rows _ c.self.invariant c.args.home c.args.home c.args.serial refl
    c.remove.ensures.after).1
