use Rattle.do_packet.proofs.packing.pack.Given as goal
use Rattle.std.{proofs.Common.◌-◌, specs.List.zip}
use Rattle.do_packet.specs.{Seen.sender, walk.Following.Followed}

abbrev pub invariant-loop-k : goal.invariant-loop-k
invariant-loop-k g l =
    Followed (sender l.table l.from (g.V.View.sees l.view)) (zip l.copy l.values) l.k l.walk
    l.parts l.copies l.weight

abbrev pub decreases-loop-k : goal.decreases-loop-k
decreases-loop-k g l = 4097 - l.k
