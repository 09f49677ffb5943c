-- What a state of the machine names, in the order of a network's search.
use Rattle.std.specs.Prelude.{List, None, Option, Some, [], false, filter, map, not, ℕ, ◌++◌}
use Rattle.std.specs.List.{flat_map}
use Rattle.do_base.specs.names.Names.{ObjectName}
use Rattle.do_lost.specs.Named.{item_names, node_names, serves}
use Rattle.do_machine.specs.{State.{node, ports, queue}, World.others, check.Snapshot.snapshot}
use Rattle.do_machine.specs.declared.{item.Item.Item, node.Node.Node, state.State.State}
use Rattle.do_trace.specs.declared.outcome.NodeLine.{NodeLine}

-- what a node names, if there is one
abbrev pub names_at : Option Node → List ObjectName
names_at None = []
names_at (Some n) = node_names n

-- what items name, if there are any, where ends name nothing
abbrev pub items_names : ℕ → ℕ → Option (List Item) → List ObjectName
items_names from to None = []
items_names from to (Some items) = flat_map (item_names from to false) items

-- so of the queue from one node to another
abbrev pub between_names : State → ℕ → ℕ → List ObjectName
between_names S from to = items_names from to (queue S from to)

-- the objects of a node that are in use at peers whose ends towards it are closed
abbrev pub told_at : State → NodeLine → List ObjectName
told_at S line = map (λ e. e.object) (filter (λ e. not (serves S e.peer line.node)) line.entries)

-- what a state names, in this order
abbrev pub state_named : State → List ObjectName
state_named S =
    flat_map (λ port. names_at (node S port)) (ports S)
    ++ flat_map (λ from. flat_map (between_names S from) (others (ports S) from)) (ports S)
    ++ flat_map (told_at S) (snapshot S).nodes
