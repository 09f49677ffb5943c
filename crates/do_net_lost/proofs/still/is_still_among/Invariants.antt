-- Nothing is under way from the nodes up to here.
use Rattle.do_net_lost.proofs.still.is_still_among.Given as goal
use Rattle.std.{proofs.Common.{◌≡◌, take, true}, specs.List.list_all}
use Rattle.do_machine.specs.World.{others}
use Rattle.do_net.specs.Net.{network}
use Rattle.do_net_named.specs.Lost.{is_still_from}

abbrev pub invariant-loop-from : goal.invariant-loop-from
invariant-loop-from g l =
    list_all (λ from. is_still_from (network g.S.Hosted.seen l.net) from (others l.ports from))
    (take l.from-index l.from-items) ≡ true
