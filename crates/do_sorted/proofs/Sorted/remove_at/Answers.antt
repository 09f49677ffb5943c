use Rattle.do_sorted.proofs.Sorted.remove_at.Goals as goal
use Rattle.std.{proofs.Common.{sym, subst, T, ap, length, arith}, specs.FinMap.is_sorted}
use Rattle.std.proofs.lemmas.List.Edits.{length-remove}
use Rattle.do_sorted.proofs.SomeRows.{is_sorted-remove}

-- without a row the keys rise as before, and its places are free
pub invariant_of-self : goal.invariant_of-self
invariant_of-self g c =
    let short = length-remove c.self.inside.rows c.args.at (rw (← c.self.view_is) at c.requires) in
    let left = ap length c.remove-row.ensures.rest in
    let places = c.self.invariant.1 in
    let pushed = c.in-Ok.ensures.len in
    let room = c.in-Ok.ensures.capacity in (
      subst (λ es. T (is_sorted g.K.Ord.cmp es)) (sym c.remove-row.ensures.rest)
          (is_sorted-remove g.K.Ord.cmp _ _ c.self.invariant.0),
      omega (arith, short, left, places, pushed, room),
    )
