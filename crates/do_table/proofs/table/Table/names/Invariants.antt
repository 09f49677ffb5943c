use Rattle.do_table.proofs.table.Table.names.Given as goal
use Rattle.std.{proofs.Common.{◌≡◌, take}, specs.Map.keys_of}

abbrev pub invariant-loop-at : goal.invariant-loop-at
invariant-loop-at g l = l.names ≡ keys_of (take l.at l.self)
