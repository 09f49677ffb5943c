-- The steps of the records up to here were added.
use Rattle.do_woven.proofs.steps.steps_in.Given as goal
use Rattle.std.proofs.Common.{◌≡◌, take}
use Rattle.do_woven.specs.Steps.{steps_in}

abbrev pub invariant-loop-record : goal.invariant-loop-record
invariant-loop-record l = l.steps ≡ steps_in (take l.record-index l.record-items)
