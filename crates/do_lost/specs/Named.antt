-- The objects that a state names beside the slots of stored objects.
use Rattle.std.specs.Prelude.{Bool, List, None, Option, Some, [], if◌then◌else◌, length, map, ℕ}
use Rattle.std.specs.{Prelude.{◌++◌, ◌==◌, ◌∷◌}, List.{flat_map, list_all}}
use Rattle.do_base.specs.names.Names.{ObjectName}
use Rattle.do_class.specs.declared.packet.Name.{Name}
use Rattle.do_machine.specs.{Items.{name_naming, names}, Lists.some_passes, Objects.object_at}
use Rattle.do_machine.specs.{State.{is_open, node, own}, held.Refers.stack_objects}
use Rattle.do_machine.specs.declared.item.{Item.{Item, TheVariants.End}, Message.Message}
use Rattle.do_machine.specs.declared.{node.Node.Node, state.{Queue.Queue, State.State}}
use Rattle.do_machine.specs.declared.state.Station.{Station}

-- the root of a node, if it has one
abbrev pub root_of : Node → Option ℕ → List ObjectName
root_of n None = []
root_of n (Some serial) = own n serial ∷ []

-- the object of a node's root
abbrev pub root_names : Node → List ObjectName
root_names n = root_of n n.root

-- what a node names beside slots: its root, what invocations name, lends and asks
abbrev pub node_names : Node → List ObjectName
node_names n = root_names n ++ stack_objects n.stack
    ++ map (λ l. l.object) n.lent ++ map (λ w. w.object) n.asked

-- the object that a name on its way means
abbrev pub name_object : ℕ → ℕ → Name → ObjectName
name_object from to name = (name_naming from to name).object

-- the object that a message goes to, and those that it names
abbrev pub message_names : ℕ → ℕ → Message → List ObjectName
message_names from to m =
    object_at to m.target ∷ map (name_object from to) m.packet.names

-- what an item names; an end that waits before a closed end names nothing
abbrev pub item_names : ℕ → ℕ → Bool → Item → List ObjectName
item_names from to serving (End serials) = if serving then map (object_at to) serials else []
item_names from to serving item = map (λ x. x.object) (names from to item)

-- a node's end towards a peer is open
abbrev pub serves : State → ℕ → ℕ → Bool
serves S port peer = some_passes (λ n. is_open n peer) (node S port)

-- what the items of a queue name
abbrev pub queue_names : State → ℕ → Queue → List ObjectName
queue_names S from q = flat_map (item_names from q.to (serves S q.to from)) q.items

-- what a node and its queues name
abbrev pub station_names : State → Station → List ObjectName
station_names S s = node_names s.node ++ flat_map (queue_names S s.port) s.queues

-- what a state names beside slots
abbrev pub named : State → List ObjectName
named S = flat_map (station_names S) S.stations

-- nothing waits in the queues of a node
abbrev pub is_idle : Station → Bool
is_idle s = list_all (λ q. length q.items == 0) s.queues

-- nothing is under way
abbrev pub quiet : State → Bool
quiet S = list_all is_idle S.stations
