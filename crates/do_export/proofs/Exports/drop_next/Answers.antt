use Rattle.do_export.proofs.Exports.drop_next.Goals as goal
use Rattle.std.proofs.Common.{arith, refl}
use Rattle.do_export.proofs.{Order.{without_is, lowest_is}, Positive.entries_out}

-- where none is lowest the peer has no entry
pub returns-in_default-clause-which : goal.returns-in_default-clause-which
returns-in_default-clause-which c =
    rw (← c.self.view_is) (
      λ s. (rw (← c.self.view_is) at c.in_default.ensures) s (omega arith),
      refl,
    )

-- the rows without one are still in their order, and count something
pub invariant_of-self : goal.invariant_of-self
invariant_of-self c =
    entries_out _ _ c.self.invariant _ _ c.port.ensures.value _ c.remove.ensures.after

-- what is taken out is the lowest entry
pub returns-clause-which : goal.returns-clause-which
returns-clause-which c =
    rw (← c.self.view_is) (
      lowest_is _ _ _ (rw (← c.self.view_is) at c.in-Some.ensures),
      (without_is _ _ c.self.invariant.sorted _ _ _ c.port.ensures.value c.remove.ensures.after).1,
    )
