use Rattle.do_import.proofs.by_object.ByObject.get.Goals as goal
use Rattle.std.proofs.Common.{sym, refl, ◌∙◌}
use Rattle.do_export.proofs.Order.{found_is}

-- what is found is the value of the object
pub returns : goal.returns
returns g c =
    let rows = c.self.inside.rows.rows in
    let found = found_is rows c.self.invariant c.args.home c.args.home c.args.serial refl in
    rw (← c.self.view_is) (c.copied.ensures ∙ c.get.ensures ∙ sym found)
