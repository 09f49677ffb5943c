-- What the store and the imports of a node say of the node that the machine's rules speak of.
use Rattle.std.specs.FinMap as map
use Rattle.std.specs.Prelude.{◌≡◌, ◌≢◌, ◌↔◌, ℕ, ◌+◌, ◌<◌, Bool, true, List, ◌++◌, map as each}
use Rattle.std.specs.Prelude.{count_by}
use Rattle.do_base.specs.names.Names.{ObjectName}
use Rattle.do_packet.specs.Met.{has_object, same_object}
use Rattle.do_export.specs.Counts.{Counts, count_of}
use Rattle.do_store.specs.Names.{Stored, Objects}
use Rattle.do_import.specs.{ByObject.object_of, Imported.Imported}
use Rattle.do_machine.specs.{declared.node.{Node.Node, Stored.Stored as Object}, Lists.IsIn}
use Rattle.do_machine.specs.held.{Kept.is_held_up, Refers.{heap_objects, stack_objects}}

-- a stored object without the number of its holders
abbrev pub plain : Stored → Object
plain o = record { serial = o.serial; class = o.class; slots = o.slots }

-- stored objects without the numbers of their holders
abbrev pub heap_of : List Stored → List Object
heap_of = each plain

-- the serial of a stored object
abbrev pub serial_of : Stored → ℕ
serial_of o = o.serial

-- how often an object stands among others
abbrev pub times : ObjectName → List ObjectName → ℕ
times o = count_by (same_object o)

-- what a node refers to beside the slots of its objects: in invocations, lends and asks
abbrev pub objects_besides : Node → List ObjectName
objects_besides n =
    stack_objects n.stack ++ each (λ l. l.object) n.lent ++ each (λ w. w.object) n.asked

-- a foreign object is used once for each time that slots name it, and besides just where the node
-- refers to it besides
pub record IsUsed (n : Node) (uses : Counts) (o : ObjectName) : Type 0 where
  pub besides : ℕ
  pub counted : count_of uses o.node o.serial ≡ times o (heap_objects n.heap) + besides
  pub referred : (0 < besides) ↔ (has_object (objects_besides n) o ≡ true)

-- a store and imports have a node's objects and count what holds them: an own object has holders
-- just where it is held up beside slots, and a foreign one that was received is held
pub record Counted (entry : ℕ → ℕ → Bool) (n : Node) (store : Objects) (imports : Imported)
    : Type 0 where
  pub port : store.node ≡ n.port
  pub heap : n.heap ≡ heap_of store.objects
  pub holders : (o : Stored) → IsIn store.objects o
      → (0 < o.held) ↔ (is_held_up entry n o.serial ≡ true)
  pub held : n.held ≡ each object_of (map.keys imports.received)
  pub abroad : (o : ObjectName) → has_object n.held o ≡ true → o.node ≢ n.port
  pub uses : (o : ObjectName) → o.node ≢ n.port → IsUsed n imports.uses o
