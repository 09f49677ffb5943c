-- The objects of the entries up to here were added, where the peer's end is closed.
use Rattle.do_net_lost.proofs.told.push_told_in.Given as goal
use Rattle.std.proofs.Common.{◌≡◌, ◌++◌, filter, map, not, take}
use Rattle.do_net.specs.{Hosts.net_is_open, Net.network}

abbrev pub invariant-loop-entry : goal.invariant-loop-entry
invariant-loop-entry g l =
    l.objects ≡ l.fn.objects ++ map (λ e. e.object)
    (filter (λ e. not (net_is_open (network g.S.Hosted.seen l.net) e.peer l.line.node))
    (take l.entry-index l.entry-items))
