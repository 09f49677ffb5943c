-- The nodes up to here were added.
use Rattle.do_lines.proofs.check.push_check.Given as goal
use Rattle.std.{proofs.Common.{◌≡◌, ◌++◌, take}, specs.List.flat_map}
use Rattle.do_lines.specs.Check.{node_text}

abbrev pub invariant-loop-node : goal.invariant-loop-node
invariant-loop-node l =
    l.out ≡ l.fn.out ++ flat_map (node_text l.table) (take l.node-index l.node-items)
