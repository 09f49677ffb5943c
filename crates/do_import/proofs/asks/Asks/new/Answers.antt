use Rattle.do_import.proofs.asks.Asks.new.Goals as goal
use Rattle.std.proofs.Common.{refl}
use Rattle.do_sorted.proofs.RowsAsMap.{from_nothing}
use Rattle.do_import.proofs.AskRows.{ask_total, ask_same}

-- no rows are no asks
pub returns : goal.returns
returns c = rw (c.new.ensures, from_nothing ask_total ask_same) refl
