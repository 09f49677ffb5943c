-- What follows each step of a node: it frees objects and leaves others.
use Rattle.do_machine.specs.declared.item.Item.TheVariants as items
use Rattle.do_base.specs.declared.events.shown.Shown.TheVariants as shows
use Rattle.std.specs.{Prelude.{Bool, List, [], filter, map, not, ℕ, ◌==◌}, List.list_any}
use Rattle.do_base.specs.names.Names.{ObjectName}
use Rattle.do_packet.specs.Met.{has_object}
use Rattle.do_base.specs.declared.events.shown.Shown.{Shown}
use Rattle.do_machine.specs.declared.{node.{Node.Node, Stored.Stored}, state.Parcel.Parcel}
use Rattle.do_machine.specs.{declared.state.Effect.Effect, Effect.◌>>=◌, State.own, held.Kept.kept}
use Rattle.do_machine.specs.held.Refers.{node_objects}

-- an object of a serial is stored
abbrev is_there : List Stored → ℕ → Bool
is_there heap serial = list_any (λ x. x.serial == serial) heap

-- what is freed is shown
abbrev freed : Node → List Stored → List Shown
freed n heap =
    map (λ x. shows.Free (own n x.serial)) (filter (λ x. not (is_there heap x.serial)) n.heap)

-- what is not kept leaves the heap
abbrev pub freeing : List Stored → Node → Effect
freeing heap n = record { node = record n { heap = heap }; sent = []; shown = freed n heap }

-- what tells an object's home that it was left
abbrev pub left : ObjectName → Parcel
left o = record { to = o.node; item = items.Left o.serial }

-- what the node no longer refers to is left, and its home is told
abbrev pub dropping : List ObjectName → Node → Effect
dropping referred n = record {
  node = record n { held = filter (has_object referred) n.held };
  sent = map left (filter (λ o. not (has_object referred o)) n.held);
  shown = [];
}

-- a node frees what it does not keep, and leaves what it then no longer refers to
abbrev pub leaving : (ℕ → ℕ → Bool) → Node → Effect
leaving entry n = do
  m ← freeing (kept entry n) n
  dropping (node_objects m) m
