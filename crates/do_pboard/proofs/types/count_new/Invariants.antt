use Rattle.do_pboard.proofs.types.count_new.Given as goal
use Rattle.std.proofs.Common.{◌≡◌, ◌+◌, ◌≤◌, drop}
use Rattle.do_pboard.specs.Changes.{count_new}

abbrev pub invariant-loop-kind : goal.invariant-loop-kind
invariant-loop-kind l =
    (l.count ≤ l.kind-index)
    × (l.count + count_new l.table (drop l.kind-index l.kind-items)
    ≡ count_new l.table l.kind-items)
