use Rattle.do_part.proofs.names.+names.Given as goal
use Rattle.std.proofs.Common.{◌≡◌, take}
use Rattle.do_part.specs.Names.{sizes_of}

-- the names of the items so far
abbrev pub invariant-names_in-loop-value : goal.invariant-names_in-loop-value
invariant-names_in-loop-value l = l.names ≡ sizes_of (take l.value-index l.values)
