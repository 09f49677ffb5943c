-- What is under way from the nodes up to here was added.
use Rattle.do_net_lost.proofs.ways.push_ways.Given as goal
use Rattle.std.{proofs.Common.{◌≡◌, ◌++◌, take}, specs.List.flat_map}
use Rattle.do_machine.specs.World.{others}
use Rattle.do_net.specs.Net.{network}
use Rattle.do_net_named.specs.Waiting.{way_names}

abbrev pub invariant-loop-from : goal.invariant-loop-from
invariant-loop-from g l =
    l.objects ≡ l.fn.objects
    ++ flat_map (λ from. flat_map (way_names l.net.table (network g.S.Hosted.seen l.net) from)
    (others l.ports from)) (take l.from-index l.from-items)
