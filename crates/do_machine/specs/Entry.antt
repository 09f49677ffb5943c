-- Which own objects of a node are in use at a peer, or on their way there or back.
use Rattle.std.specs.{Prelude.{Bool, ℕ, ◌&&◌, ◌||◌}, List.list_any}
use Rattle.do_base.specs.names.Names.{ObjectName}
use Rattle.do_packet.specs.Met.{has_object}
use Rattle.do_machine.specs.{declared.{node.Node.Node, state.State.State}, Items.exported}
use Rattle.do_machine.specs.{Items.released, Lists.some_passes, State.{holds, is_open, node, queue}}

-- the peer holds the object, and its end towards the home is open
abbrev pub is_holder : ObjectName → Node → Bool
is_holder o peer = is_open peer o.node && holds peer o

-- the home's end towards the peer is open
abbrev pub is_reached : State → ℕ → ObjectName → Bool
is_reached S peer o = some_passes (λ n. is_open n peer) (node S o.node)

-- an item on its way to the peer exports the object
abbrev pub is_under_way : State → ℕ → ObjectName → Bool
is_under_way S peer o =
    some_passes (list_any (λ item. has_object (exported o.node peer item) o)) (queue S o.node peer)

-- an item on its way back from the peer releases it
abbrev pub is_on_its_way_back : State → ℕ → ObjectName → Bool
is_on_its_way_back S peer o =
    some_passes (list_any (λ item. has_object (released peer o.node item) o)) (queue S peer o.node)

-- an object of a node has an entry for a peer: it may be in use there
abbrev pub has_entry : State → ℕ → ObjectName → Bool
has_entry S peer o =
    is_reached S peer o
    && (some_passes (is_holder o) (node S peer)
    || is_under_way S peer o
    || is_on_its_way_back S peer o)
