use Rattle.do_pboard.proofs.types.add_all.Given as goal
use Rattle.std.proofs.Common.{◌≡◌, drop, take, length}
use Rattle.do_pboard.specs.Changes.{with_types}

abbrev pub invariant-loop-kind : goal.invariant-loop-kind
invariant-loop-kind l =
    (with_types l.table (drop l.kind-index l.kind-items) ≡ with_types l.fn.table l.kind-items)
    × (take (length l.fn.table) l.table ≡ l.fn.table)
