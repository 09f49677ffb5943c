-- The own objects of a node that are held up beside the root and slots, as one list.
use Rattle.std.specs.Prelude.{Bool, List, None, Option, Some, [], if◌then◌else◌, ℕ, ◌++◌, ◌||◌}
use Rattle.std.specs.List.{flat_map}
use Rattle.do_base.specs.names.Names.{ObjectName}
use Rattle.do_packet.specs.Met.{has_object}
use Rattle.do_machine.specs.declared.{item.Item.Item, node.{Node.Node, Stored.Stored}}
use Rattle.do_machine.specs.{declared.state.State.State, Lists.some_passes}
use Rattle.do_machine.specs.{State.{is_open, node, own, queue}, held.Kept.is_root}
use Rattle.do_machine.specs.held.Refers.{heap_objects, stack_objects}
use Rattle.do_rules.specs.Exporting.{exports_of, releases_of}

-- the objects that a node, if there is one, holds while its end towards a home is open
abbrev pub held_of : ℕ → Option Node → List ObjectName
held_of home None = []
held_of home (Some n) = if is_open n home then n.held else []

-- the objects that the items of a queue, if there is one, name in some way
abbrev pub named_by : (Item → List ObjectName) → Option (List Item) → List ObjectName
named_by f None = []
named_by f (Some is) = flat_map f is

-- the objects of a home that have an entry for a peer; others are passed over
abbrev pub entered : State → ℕ → ℕ → List ObjectName
entered S home peer =
    if some_passes (λ n. is_open n peer) (node S home)
    then held_of home (node S peer)
    ++ (named_by (exports_of home) (queue S home peer)
    ++ named_by (releases_of home) (queue S peer home))
    else []

-- those that an invocation names, and those that have an entry for a peer
abbrev pub held_up : State → Node → List ObjectName
held_up S n = stack_objects n.stack ++ flat_map (entered S n.port) n.open_to

-- an object stays: it is the root, or among those held up, or a slot names it
abbrev pub stays_by : List ObjectName → Node → List Stored → Stored → Bool
stays_by held n heap x =
    (is_root n x.serial || has_object held (own n x.serial))
    || has_object (heap_objects heap) (own n x.serial)
