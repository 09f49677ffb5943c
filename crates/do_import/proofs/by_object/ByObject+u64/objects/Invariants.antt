use Rattle.std.specs.FinMap as map
use Rattle.do_import.proofs.by_object.ByObject+u64.objects.Given as goal
use Rattle.std.proofs.Common.{◌≡◌, take, map as each}
use Rattle.do_import.specs.ByObject.{object_of}

-- the objects so far are those of the rows so far
abbrev pub invariant-loop-at : goal.invariant-loop-at
invariant-loop-at l =
    l.oids ≡ each object_of (each (λ e. e.0) (take l.at (map.entries l.self.rows)))
