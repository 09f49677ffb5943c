-- The ends that were made so far.
use Rattle.do_streams.proofs.streams.opening_ends.Given as goal
use Rattle.std.proofs.Common.{◌≡◌, map, take}
use Rattle.do_network.specs.Net.{opening_link}
use Rattle.do_streams.specs.Streamed.{link_of}

-- their links are those of an opening with the peers that were passed
abbrev pub invariant-loop-peer : goal.invariant-loop-peer
invariant-loop-peer l = map link_of l.ends ≡ map opening_link (take l.peer-index l.peers)
