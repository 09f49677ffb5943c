use Rattle.do_packet.proofs.packing.naming.names_of.Given as goal
use Rattle.std.proofs.Common.{take}
use Rattle.do_packet.specs.{Seen.sender, walk.Following.IsNaming}

abbrev pub invariant-loop-oid : goal.invariant-loop-oid
invariant-loop-oid g l =
    IsNaming (sender l.table l.from (g.V.View.sees l.view)) l.to l.next_token
    (take l.oid-index l.oids) l.oid-index (record { names = l.list; token = l.token })
