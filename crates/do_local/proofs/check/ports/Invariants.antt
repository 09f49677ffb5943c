-- The ports of the stations so far.
use Rattle.do_local.proofs.check.ports.Given as goal
use Rattle.std.proofs.Common.{◌≡◌, map, take}

abbrev pub invariant-loop-station : goal.invariant-loop-station
invariant-loop-station l =
    l.ports ≡ map (λ s. s.port) (take l.station-index l.station-items)
