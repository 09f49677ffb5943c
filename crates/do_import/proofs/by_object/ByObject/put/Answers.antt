use Rattle.do_import.proofs.by_object.ByObject.put.Goals as goal
use Rattle.std.proofs.Common.{refl}
use Rattle.do_export.proofs.Order.{put_is}

-- the rows with one more are still in their order
pub invariant_of-self : goal.invariant_of-self
invariant_of-self g c =
    (put_is c.self.inside.rows.rows _ c.self.invariant c.args.home c.args.home c.args.serial refl _
    c.put.ensures.after).0

-- the object has the value
pub returns-clause-rows : goal.returns-clause-rows
returns-clause-rows g c =
    rw (← c.self.view_is)
    (put_is c.self.inside.rows.rows _ c.self.invariant c.args.home c.args.home c.args.serial refl _
    c.put.ensures.after).1
