-- The objects that a network names beside the slots of stored objects.
use Rattle.std.specs.{Prelude.{List, None, Option, Some, [], filter, map, not, ◌++◌}, List.flat_map}
use Rattle.do_base.specs.names.Names.{ObjectName}
use Rattle.do_class.specs.Class.{Class}
use Rattle.do_lost.specs.Named.{node_names}
use Rattle.do_machine.specs.World.{others}
use Rattle.do_net.specs.Hosts.{net_is_open}
use Rattle.do_network.specs.{Links.Part, Net.{Net, net_ports, part_at}, Snapshot.net_snapshot}
use Rattle.do_trace.specs.declared.outcome.NodeLine.{NodeLine}
use Rattle.do_net_named.specs.Waiting.{way_names}

-- what a site names, if there is one
abbrev pub part_names : Option Part → List ObjectName
part_names None = []
part_names (Some p) = node_names p.own.node

-- the objects of a node that are in use at peers whose ends towards it are closed: the end, which
-- is on its way, tells of what its sender held
abbrev pub told_in : Net → NodeLine → List ObjectName
told_in N line =
    map (λ e. e.object) (filter (λ e. not (net_is_open N e.peer line.node)) line.entries)

-- what a network names: what its nodes name, what is under way names, and what closed ends tell of
abbrev pub net_named : List Class → Net → List ObjectName
net_named table N =
    flat_map (λ port. part_names (part_at N port)) (net_ports N)
    ++ flat_map (λ from. flat_map (way_names table N from) (others (net_ports N) from))
    (net_ports N)
    ++ flat_map (told_in N) (net_snapshot N).nodes
