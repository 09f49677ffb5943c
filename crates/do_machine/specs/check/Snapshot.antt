-- What a check lists of a state.
use Rattle.std.specs.{Prelude.{List, filter, map, not, option_map, ℕ, ◌&&◌, ◌==◌}, List.flat_map}
use Rattle.do_base.specs.names.Names.{ObjectName}
use Rattle.do_machine.specs.declared.{node.{Node.Node, Stored.Stored}, state.State.State}
use Rattle.do_trace.specs.declared.outcome.{Snapshot.Snapshot, NodeLine.NodeLine, ObjLine.ObjLine}
use Rattle.do_trace.specs.declared.outcome.Entry.{Entry}
use Rattle.do_machine.specs.{Entry.has_entry, State.{is_open, own, ports}}

-- a stored object, as a check lists it
abbrev pub object_line : Node → Stored → ObjLine
object_line n x = record { oid = own n x.serial; class = x.class; slots = x.slots }

-- the names of a node's stored objects
abbrev pub own_objects : Node → List ObjectName
own_objects n = map (λ x. own n x.serial) n.heap

-- an entry of a peer
abbrev pub entry_of : ℕ → ObjectName → Entry
entry_of peer o = record { peer = peer; object = o }

-- the entries that a peer has of a node's objects, by rising serial
abbrev pub entries_for : State → Node → ℕ → List Entry
entries_for S n peer = map (entry_of peer) (filter (has_entry S peer) (own_objects n))

-- the peers towards which a node's end is closed
abbrev pub closed_ends : State → Node → List ℕ
closed_ends S n =
    filter (λ p. not (p == n.port) && not (is_open n p)) (ports S)

-- a node, as a check lists it
abbrev pub node_line : State → Node → NodeLine
node_line S n = record {
  node = n.port;
  root = option_map (own n) n.root;
  closed = closed_ends S n;
  objects = map (object_line n) n.heap;
  entries = flat_map (entries_for S n) n.open_to;
}

-- the nodes by rising port, each with its root, its closed ends, its objects and their entries
abbrev pub snapshot : State → Snapshot
snapshot S = record { nodes = map (λ s. node_line S s.node) S.stations }
