use Rattle.do_sorted.proofs.Sorted.put.Goals as goal
use Rattle.std.{proofs.Common.{arith, sym, ap, ◌∙◌, length, subst, T}, specs.FinMap.is_sorted}
use Rattle.std.{specs.FinMap.Entries.is_sorted-put, proofs.lemmas.List.Edits.length-insert}
use Rattle.do_sorted.proofs.RowOrGap.{row_there, gap_within, find_gap, put_gap, length-put_there}

-- a key that has a row is there
pub replace-requires-clause-there : goal.replace-requires-clause-there
replace-requires-clause-there g c =
    row_there g.met.K.Ord.total _ _ _ (rw (← c.self.view_is) at c.in-Ok.ensures.found)

-- with another value the keys rise as before, and there are as many rows
pub invariant_of-self : goal.invariant_of-self
invariant_of-self g c =
    let there = row_there g.met.K.Ord.total _ _ _
    (rw (← c.self.view_is) at c.in-Ok.ensures.found) in
    let same = ap length c.replace.ensures.after
    ∙ length-put_there g.met.K.Ord.total c.args.key c.args.value c.self.inside.rows
    c.self.invariant.0 there in
    let places = c.self.invariant.1 in (
      subst (λ es. T (is_sorted g.K.Ord.cmp es)) (sym c.replace.ensures.after)
          (is_sorted-put g.K.Ord.cmp g.met.K.Ord.total _ _ _ c.self.invariant.0),
      omega (arith, same, places),
    )

-- nor is there less room
pub returns-in-Ok-clause-capacity : goal.returns-in-Ok-clause-capacity
returns-in-Ok-clause-capacity g c =
    let there = row_there g.met.K.Ord.total _ _ _
    (rw (← c.self.view_is) at c.in-Ok.ensures.found) in
    let same = ap length c.replace.ensures.after
    ∙ length-put_there g.met.K.Ord.total c.args.key c.args.value c.self.inside.rows
    c.self.invariant.0 there in
    rw (← c.self.view_is) (omega (arith, same))

-- the gap for a key is within the rows or at their end
pub insert-requires-clause-in_range : goal.insert-requires-clause-in_range
insert-requires-clause-in_range g c =
    gap_within g.met.K.Ord.total _ _ _ (rw (← c.self.view_is) at c.in-Err.ensures.absent)

-- with a new row in its gap the keys rise, and it took two places
pub invariant_of-self-in-Err : goal.invariant_of-self-in-Err
invariant_of-self-in-Err g c =
    let absent = rw (← c.self.view_is) at c.in-Err.ensures.absent in
    let is = put_gap g.met.K.Ord.total c.args.key c.args.value c.self.inside.rows c.in-Err.at absent
    in
    let more = ap length c.insert.ensures
    ∙ length-insert c.self.inside.rows c.in-Err.at (c.args.key, c.args.value)
    (gap_within g.met.K.Ord.total _ _ _ absent) in
    let places = c.self.invariant.1 in
    let popped = c.in-Some.ensures.cases in
    let room = c.pop.ensures.capacity in (
      subst (λ es. T (is_sorted g.K.Ord.cmp es)) (is ∙ sym c.insert.ensures)
          (is_sorted-put g.K.Ord.cmp g.met.K.Ord.total _ _ _ c.self.invariant.0),
      omega (arith, more, places, popped, room),
    )

-- a key that stood nowhere had no value
pub returns-in-Some-clause-before : goal.returns-in-Some-clause-before
returns-in-Some-clause-before g c =
    sym (find_gap g.met.K.Ord.total _ _ _ c.in-Err.ensures.sorted c.in-Err.ensures.absent)

-- a row put into the gap for its key is put at the key
pub returns-in-Some-clause-after : goal.returns-in-Some-clause-after
returns-in-Some-clause-after g c =
    let absent = rw (← c.self.view_is) at c.in-Err.ensures.absent in
    rw (← c.self.view_is)
    (c.insert.ensures
    ∙ sym (put_gap g.met.K.Ord.total c.args.key c.args.value c.self.inside.rows c.in-Err.at absent))
