use Rattle.do_class.proofs.table.ClassTable.new.Goals as goal
use Rattle.std.proofs.Common.{subst, sym}
use Rattle.do_class.{specs.Index.IsIndexedTable, proofs.Tables.IsIndexedTable-empty}

pub invariant_of-result : goal.invariant_of-result
invariant_of-result c =
    subst (λ classes. IsIndexedTable classes c.new-2.result) (sym c.new.ensures)
    (IsIndexedTable-empty c.new-2.result c.new-2.ensures.empty)
