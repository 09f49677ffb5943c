use Rattle.do_table.proofs.table.Table.of.Given as goal
use Rattle.std.proofs.Common.{◌≡◌, true, take, map}
use Rattle.do_table.specs.Entries.{are_distinct}

abbrev pub invariant-loop-row : goal.invariant-loop-row
invariant-loop-row g l =
    let entries = map g.E.Entry.entry l.rows in
    (l.table ≡ take l.row-index entries) × (are_distinct (take l.row-index entries) ≡ true)
