use Rattle.do_sorted.proofs.Sorted.set.Goals as goal
use Rattle.std.proofs.Common.{arith, sym, ap, ◌∙◌, length, subst, T}
use Rattle.std.specs.FinMap.{is_sorted, Entries.is_sorted-put}
use Rattle.do_sorted.proofs.RowOrGap.{length-put_there}

-- with another value the keys rise as before, and there are as many rows
pub invariant_of-self : goal.invariant_of-self
invariant_of-self g c =
    let same = ap length c.replace.ensures.after
    ∙ length-put_there g.met.K.Ord.total c.args.key.now c.args.value c.self.inside.rows
    c.self.invariant.0 (rw (← c.self.view_is) at c.requires) in
    let places = c.self.invariant.1 in (
      subst (λ es. T (is_sorted g.K.Ord.cmp es)) (sym c.replace.ensures.after)
          (is_sorted-put g.K.Ord.cmp g.met.K.Ord.total _ _ _ c.self.invariant.0),
      omega (arith, same, places),
    )
