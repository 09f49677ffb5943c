use Rattle.do_export.proofs.Exports.forget.Goals as goal
use Rattle.do_export.proofs.{Order.without_is, Positive.entries_out}

-- the rows without one are still in their order, and count something
pub invariant_of-self : goal.invariant_of-self
invariant_of-self c =
    entries_out _ _ c.self.invariant _ _ c.port.ensures.value _ c.remove.ensures.after

-- the entry is taken out
pub returns-clause-counts : goal.returns-clause-counts
returns-clause-counts c =
    rw (← c.self.view_is)
    (without_is _ _ c.self.invariant.sorted _ _ _ c.port.ensures.value c.remove.ensures.after).1
