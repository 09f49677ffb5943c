-- Each of those so far is the one that all share.
use Rattle.do_node.proofs.networks.makers_of.Given as goal
use Rattle.std.{proofs.Common.{◌≡◌, length}, specs.List.AllByRecursion}

abbrev pub invariant-loop-node : goal.invariant-loop-node
invariant-loop-node l = record {
  each : length l.makers ≡ l._node-index;
  one : AllByRecursion (λ m. m ≡ l.acts) l.makers;
}
