use Rattle.do_import.proofs.lends.Lends.object.Goals as goal
use Rattle.std.proofs.Common.{sym, ◌∙◌}
use Rattle.do_export.proofs.Order.{found_is}

-- the row that is found has the object
pub returns : goal.returns
returns c =
    let rows = c.self.inside.lends.rows in
    let found = found_is rows c.self.invariant _ _ c.args.token c.port.ensures.value in
    rw (← c.self.view_is) (c.copied.ensures ∙ c.get.ensures ∙ sym found)
