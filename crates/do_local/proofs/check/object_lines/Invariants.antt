-- The objects so far, as a check lists them.
use Rattle.do_local.proofs.check.object_lines.Given as goal
use Rattle.std.proofs.Common.{◌≡◌, map, take}
use Rattle.do_machine.specs.check.Snapshot.{object_line}

abbrev pub invariant-loop-stored : goal.invariant-loop-stored
invariant-loop-stored l =
    l.lines ≡ map (object_line l.node) (take l.stored-index l.stored-items)
