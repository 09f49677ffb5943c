use Rattle.do_sorted.proofs.Sorted.remove.Goals as goal
use Rattle.std.proofs.{Common.{sym, ap, length, arith, ◌∙◌}, lemmas.List.Edits.length-remove}
use Rattle.do_sorted.proofs.RowOrGap.{row_within, find_here, find_gap, without_row, without_gap}

-- a key that stands nowhere has no value
pub returns-in_default-clause-before : goal.returns-in_default-clause-before
returns-in_default-clause-before g c =
    sym (find_gap g.met.K.Ord.total _ _ _ c.in_default.ensures.sorted c.in_default.ensures.absent)

-- without a key that stands nowhere the rows are the same
pub returns-in_default-clause-after : goal.returns-in_default-clause-after
returns-in_default-clause-after g c =
    sym (without_gap g.met.K.Ord.total _ _ _ c.in_default.ensures.sorted
    c.in_default.ensures.absent)

-- a row of a key that is there is within the rows
pub remove_at-requires : goal.remove_at-requires
remove_at-requires g c = row_within g.met.K.Ord.total _ _ _ c.in-Ok.ensures.found

-- the value of the row that is taken out was that of the key
pub returns-clause-before : goal.returns-clause-before
returns-clause-before g c =
    sym (find_here g.met.K.Ord.total _ _ _ _ c.in-Ok.ensures.found c.remove_at.ensures.row)

-- the rows without that of a key are those of all other keys
pub returns-clause-after : goal.returns-clause-after
returns-clause-after g c =
    c.remove_at.ensures.rest
    ∙ sym (without_row g.met.K.Ord.total _ _ _ c.in-Ok.ensures.sorted c.in-Ok.ensures.found)

-- one row less is one place more
pub returns-clause-capacity : goal.returns-clause-capacity
returns-clause-capacity g c =
    let within = row_within g.met.K.Ord.total _ _ _ c.in-Ok.ensures.found in
    let short = length-remove c.args.self.now.rows c.in-Ok.at within in
    let left = ap length c.remove_at.ensures.rest in
    omega (arith, short, left, c.remove_at.ensures.spare)
