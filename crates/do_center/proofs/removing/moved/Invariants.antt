use Rattle.do_center.proofs.removing.moved.Given as goal
use Rattle.std.proofs.Common.{◌≡◌, take}
use Rattle.do_center.specs.Removing.{moved}

abbrev pub invariant-loop-entry : goal.invariant-loop-entry
invariant-loop-entry l = l.rest ≡ moved l.places (take l.entry-index l.entry-items)
