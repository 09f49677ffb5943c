use Rattle.do_import.proofs.lends.Lends.new.Goals as goal
use Rattle.std.proofs.Common.{refl}
use Rattle.do_sorted.proofs.RowsAsMap.{from_nothing}
use Rattle.do_export.proofs.Order.{entry_total, entry_same}

-- no rows are no lends
pub returns : goal.returns
returns c = rw (c.new.ensures, from_nothing entry_total entry_same) refl
