-- The nodes up to here were counted.
use Rattle.do_make.proofs.adding.count_listed.Given as goal
use Rattle.std.proofs.Common.{◌≡◌, length, sum_by, take}
use Rattle.do_trace.specs.declared.outcome.NodeLine.{NodeLine}

abbrev pub invariant-loop-node : goal.invariant-loop-node
invariant-loop-node l =
    let nodes = take l.node-index l.listed.nodes in
    l.sum
    ≡ record l.fn.sum {
      objects = sum_by (λ (n : NodeLine). length n.objects) nodes;
      entries = sum_by (λ (n : NodeLine). length n.entries) nodes;
    }
