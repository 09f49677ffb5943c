-- The ports so far towards which the end is closed.
use Rattle.do_local.proofs.check.closed_ends.Given as goal
use Rattle.std.proofs.Common.{◌≡◌, filter, not, take, ◌&&◌, ◌==◌}
use Rattle.do_machine.specs.State.{is_open}

abbrev pub invariant-loop-port : goal.invariant-loop-port
invariant-loop-port l =
    l.closed ≡ filter (λ p. not (p == l.node.port) && not (is_open l.node p))
    (take l.port-index l.port-items)
