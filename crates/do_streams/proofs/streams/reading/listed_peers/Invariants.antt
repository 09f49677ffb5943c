-- The peers that were listed so far.
use Rattle.do_streams.proofs.streams.reading.listed_peers.Given as goal
use Rattle.std.proofs.Common.{◌≡◌, map, take}
use Rattle.do_streams.specs.declared.end.End.{End}

-- they are the peers of the ends that were passed
abbrev pub invariant-loop-end : goal.invariant-loop-end
invariant-loop-end l = l.peers ≡ map (λ (e : End). e.peer) (take l.end-index l.ends)
