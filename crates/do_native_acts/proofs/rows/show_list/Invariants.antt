use Rattle.do_native_acts.proofs.rows.show_list.Given as goal
use Rattle.std.proofs.Common.{◌≡◌, map, take}

abbrev pub invariant-loop-row : goal.invariant-loop-row
invariant-loop-row g l = l.values ≡ map g.T.Row.shown (take l.row-index l.row-items)
