-- A behaviour for each node so far, all of the program.
use Rattle.whole_runs.proofs.opening.counters.Given as goal
use Rattle.std.proofs.Common.{◌≡◌, length}
use Rattle.whole_runs.specs.Counters.{AreOf}

abbrev pub invariant-loop-node : goal.invariant-loop-node
invariant-loop-node l = record {
  each : length l.makers ≡ l._node-index;
  one : AreOf l.program l.makers;
}
