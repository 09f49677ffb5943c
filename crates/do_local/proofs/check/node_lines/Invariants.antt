-- The nodes so far, as a check lists them.
use Rattle.do_local.proofs.check.node_lines.Given as goal
use Rattle.std.proofs.Common.{◌≡◌, map, take}
use Rattle.do_machine.specs.check.Snapshot.{node_line}

abbrev pub invariant-loop-station : goal.invariant-loop-station
invariant-loop-station l =
    l.lines ≡ map (λ s. node_line l.state s.node) (take l.station-index l.station-items)
