use Rattle.do_names.proofs.names.shown.Given as goal
use Rattle.std.proofs.Common.{◌≡◌, map, take}
use Rattle.do_names.specs.Core.{row}

abbrev pub invariant-loop-at : goal.invariant-loop-at
invariant-loop-at l = l.rows ≡ map row (take l.at l.ports)
