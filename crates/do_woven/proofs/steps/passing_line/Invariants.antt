-- The steps of the blocks up to here were added, and they are few enough.
use Rattle.do_woven.proofs.steps.passing_line.Given as goal
use Rattle.std.proofs.Common.{◌≡◌, ◌+◌, ◌≤◌, drop, sum_by, take}
use Rattle.do_sched.specs.Schedule.{most_steps}
use Rattle.do_woven.specs.Steps.{block_steps, passing_line}

abbrev pub invariant-loop-block : goal.invariant-loop-block
invariant-loop-block l = record {
  steps : l.steps ≡ l.done + sum_by block_steps (take l.block-index l.block-items);
  few : l.steps ≤ most_steps;
  line : passing_line l.done l.block-items
      ≡ passing_line l.steps (drop l.block-index l.block-items);
}
