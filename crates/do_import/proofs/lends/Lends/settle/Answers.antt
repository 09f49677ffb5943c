use Rattle.do_import.proofs.lends.Lends.settle.Goals as goal
use Rattle.std.proofs.Common.{sym, ◌∙◌}
use Rattle.do_export.proofs.Order.{without_is, found_is}

-- the rows without one are still in their order
pub invariant_of-self : goal.invariant_of-self
invariant_of-self c =
    (without_is _ _ c.self.invariant _ _ _ c.port.ensures.value c.remove.ensures.after).0

-- the row that is taken out has the object
pub returns-clause-which : goal.returns-clause-which
returns-clause-which c =
    rw (← c.self.view_is)
    (c.remove.ensures.before ∙ sym (found_is c.self.inside.lends.rows c.self.invariant _ _
    c.args.token c.port.ensures.value))

-- the lend is taken out
pub returns-clause-lends : goal.returns-clause-lends
returns-clause-lends c =
    rw (← c.self.view_is)
    (without_is _ _ c.self.invariant _ _ _ c.port.ensures.value c.remove.ensures.after).1
