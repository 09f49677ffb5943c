-- What the nodes up to here are told of was added.
use Rattle.do_net_lost.proofs.told.push_told.Given as goal
use Rattle.std.{proofs.Common.{◌≡◌, ◌++◌, take}, specs.List.flat_map}
use Rattle.do_net.specs.Net.{network}
use Rattle.do_net_named.specs.Named.{told_in}

abbrev pub invariant-loop-line : goal.invariant-loop-line
invariant-loop-line g l =
    l.objects ≡ l.fn.objects
    ++ flat_map (told_in (network g.S.Hosted.seen l.net)) (take l.line-index l.line-items)
