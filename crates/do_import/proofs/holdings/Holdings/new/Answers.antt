use Rattle.do_import.proofs.holdings.Holdings.new.Goals as goal
use Rattle.std.proofs.Common.{ap}
use Rattle.do_sorted.specs.Rows.{Rows}
use Rattle.do_export.specs.Counts.{Exported}
use Rattle.do_import.proofs.Rooms.{empty_roomy}

-- an empty thread is right where nothing was received
pub invariant_of-result : goal.invariant_of-result
invariant_of-result c =
    empty_roomy _ _ _ _ (ap (λ (e : Exported). e.counts) c.new.ensures)
    (ap (λ (s : Rows _ _). s.rows) c.new-3.ensures)
    (ap (λ (e : Exported). e.counts) c.new-2.ensures)
