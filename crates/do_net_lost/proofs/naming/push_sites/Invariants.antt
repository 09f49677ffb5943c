-- What the nodes of the ports up to here name was added.
use Rattle.do_net_lost.proofs.naming.push_sites.Given as goal
use Rattle.std.{proofs.Common.{◌≡◌, ◌||◌, take}, specs.List.flat_map}
use Rattle.do_base.specs.names.Names.{ObjectName}
use Rattle.do_net.specs.Net.{network}
use Rattle.do_net_named.specs.Named.{part_names}
use Rattle.do_network.specs.Net.{part_at}
use Rattle.do_packet.specs.Met.{has_object}

abbrev pub invariant-loop-port : goal.invariant-loop-port
invariant-loop-port g l = (o : ObjectName) → has_object l.objects o
    ≡ (has_object l.fn.objects o
    || has_object (flat_map (λ port. part_names (part_at (network g.S.Hosted.seen l.net) port))
    (take l.port-index l.port-items)) o)
