-- The ports of the sites so far.
use Rattle.do_net.proofs.net.Net.ports.Given as goal
use Rattle.std.proofs.Common.{◌≡◌, map, take}

abbrev pub invariant-loop-host : goal.invariant-loop-host
invariant-loop-host g l = l.ports ≡ map (λ h. h.port) (take l.host-index l.host-items)
