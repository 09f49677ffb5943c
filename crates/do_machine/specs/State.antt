-- The state of the machine.
use Rattle.std.specs.Prelude.{Bool, List, None, Option, find, map, option_and_then, option_map}
use Rattle.std.specs.{Prelude.{slice_get, suc, zero, ℕ, ◌==◌, ◌||◌}, List.list_any}
use Rattle.do_base.specs.names.Names.{ObjectName}
use Rattle.do_packet.specs.Met.{has_object, same_object}
use Rattle.do_class.specs.declared.ids.ClassId.{ClassId}
use Rattle.do_machine.specs.declared.{item.Item.Item, node.{Node.Node, Stored.Stored}}
use Rattle.do_machine.specs.declared.state.{Queue.Queue, Station.Station, State.State}
use Rattle.do_machine.specs.{Lists.change_first, Objects.object_at}

-- the ports of a state's nodes
abbrev pub ports : State → List ℕ
ports S = map (λ s. s.port) S.stations

-- the station of a port
abbrev pub station : State → ℕ → Option Station
station S port = find (λ s. port == s.port) S.stations

-- the node of a port
abbrev pub node : State → ℕ → Option Node
node S port = option_map (λ s. s.node) (station S port)

-- the queue to a peer
abbrev pub queue_to : ℕ → Station → Option (List Item)
queue_to to s = option_map (λ q. q.items) (find (λ q. to == q.to) s.queues)

-- the queue from a node to another
abbrev pub queue : State → ℕ → ℕ → Option (List Item)
queue S from to = option_and_then (λ s. queue_to to s) (station S from)

-- the node's end towards a peer is open; a port that is no node and the own port are never open
abbrev pub is_open : Node → ℕ → Bool
is_open n peer = list_any (λ p. p == peer) n.open_to

-- the node counts as a holder of a foreign object
abbrev pub holds : Node → ObjectName → Bool
holds n o = has_object n.held o

-- the node waits for a foreign object's home to let it hold it
abbrev pub has_asked : Node → ObjectName → Bool
has_asked n o = list_any (λ w. same_object o w.object) n.asked

-- the node may use a foreign object: it holds it or has asked for it
abbrev pub is_known : Node → ObjectName → Bool
is_known n o = holds n o || has_asked n o

-- the name of an own object
abbrev pub own : Node → ℕ → ObjectName
own n serial = object_at n.port serial

-- an object is the node's own
abbrev pub is_own : Node → ObjectName → Bool
is_own n o = o.node == n.port

-- the stored object of a serial
abbrev pub stored : ℕ → List Stored → Option Stored
stored serial heap = find (λ x. x.serial == serial) heap

-- the class that was given with a serial, the first being 1
abbrev pub class_given : List ClassId → ℕ → Option ClassId
class_given classes zero = None
class_given classes (suc k) = slice_get classes k

-- the state with the station of a port changed
abbrev pub change : ℕ → (Station → Station) → State → State
change port f S = record { stations = change_first (λ s. port == s.port) f S.stations }

-- a queue with other items
abbrev pub with_items : List Item → Queue → Queue
with_items items q = record q { items = items }

-- a station with other items in its queue to a peer
abbrev pub with_queue : ℕ → List Item → Station → Station
with_queue to items s =
    record s { queues = change_first (λ q. to == q.to) (with_items items) s.queues }

-- the class of an object, also after it left the heap
abbrev pub class_of : State → ObjectName → Option ClassId
class_of S o = option_and_then (λ s. class_given s.classes o.serial) (station S o.node)
