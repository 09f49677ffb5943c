use Rattle.do_import.proofs.lends.Lends.lend.Goals as goal
use Rattle.do_export.proofs.Order.{put_is}

-- the rows with one more are still in their order
pub invariant_of-self : goal.invariant_of-self
invariant_of-self c =
    (put_is _ _ c.self.invariant _ _ _ c.port.ensures.value _ c.put.ensures.after).0

-- the lend is put in
pub returns-clause-lends : goal.returns-clause-lends
returns-clause-lends c =
    rw (← c.self.view_is)
    (put_is _ _ c.self.invariant _ _ _ c.port.ensures.value _ c.put.ensures.after).1
