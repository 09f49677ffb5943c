-- The steps of the blocks up to here were added.
use Rattle.do_woven.proofs.steps.record_steps.Given as goal
use Rattle.std.proofs.Common.{◌≡◌, sum_by, take}
use Rattle.do_woven.specs.Steps.{block_steps}

abbrev pub invariant-loop-block : goal.invariant-loop-block
invariant-loop-block l = l.steps ≡ sum_by block_steps (take l.block-index l.block-items)
