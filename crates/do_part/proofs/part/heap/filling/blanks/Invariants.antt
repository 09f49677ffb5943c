use Rattle.do_part.proofs.part.heap.filling.blanks.Given as goal
use Rattle.std.proofs.Common.{◌≡◌, map, take}
use Rattle.do_part.specs.Filled.{blank_of}

-- a blank object for each copy so far
abbrev pub invariant-loop-copy : goal.invariant-loop-copy
invariant-loop-copy l = l.made ≡ map blank_of (take l.copy-index l.copy-items)
