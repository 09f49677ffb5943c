-- What is under way to the peers up to here was added.
use Rattle.do_net_lost.proofs.ways.push_ways_to.Given as goal
use Rattle.std.{proofs.Common.{◌≡◌, ◌++◌, take}, specs.List.flat_map}
use Rattle.do_net.specs.Net.{network}
use Rattle.do_net_named.specs.Waiting.{way_names}

abbrev pub invariant-loop-peer : goal.invariant-loop-peer
invariant-loop-peer g l =
    l.objects ≡ l.fn.objects
    ++ flat_map (way_names l.net.table (network g.S.Hosted.seen l.net) l.from)
    (take l.peer-index l.peer-items)
