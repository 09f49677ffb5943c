use Rattle.do_pboard.proofs.types.contents_of.Given as goal
use Rattle.std.proofs.Common.{◌≡◌, take}
use Rattle.do_pboard.specs.Core.{contents}

abbrev pub invariant-loop-at : goal.invariant-loop-at
invariant-loop-at l = l.list ≡ contents (take l.at l.types)
