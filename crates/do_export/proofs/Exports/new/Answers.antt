use Rattle.do_export.proofs.Exports.new.Goals as goal
use Rattle.std.proofs.Common.{refl, sym, subst}
use Rattle.do_sorted.proofs.RowsAsMap.{from_nothing}
use Rattle.do_export.{proofs.Order.{entry_total, entry_same}, specs.Counts.IsPositive}
use Rattle.do_export.proofs.Positive.{none_positive}

-- no rows are in their order
pub invariant_of-result : goal.invariant_of-result
invariant_of-result c = rw (c.new.ensures) (record {
  sorted = tt;
  positive = subst IsPositive (sym (from_nothing entry_total entry_same)) none_positive;
})

-- and they are no entries
pub returns : goal.returns
returns c = rw (c.new.ensures, from_nothing entry_total entry_same) refl
