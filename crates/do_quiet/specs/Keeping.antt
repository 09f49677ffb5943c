-- Which objects all nodes together keep.
use Rattle.std.specs.{Prelude.{Bool, List, Some, map, true, ℕ, ◌≡◌}, List.list_any}
use Rattle.do_base.specs.names.Names.{ObjectName}
use Rattle.do_packet.specs.Met.{has_object}
use Rattle.do_machine.specs.declared.{item.Item.Item, node.{Node.Node, Stored.Stored}}
use Rattle.do_machine.specs.{declared.state.State.State, Context.around, Items.names, Lists.IsIn}
use Rattle.do_machine.specs.{Objects.object_at, State.{node, queue}}
use Rattle.do_machine.specs.held.{Kept.{HoldsItself, is_root}, Refers.{objects_in, stack_objects}}
use Rattle.do_facts.specs.{Made.is_stored, steps.Held.RefersToHeld}

-- what holds an object up beside entries
pub data IsHeldUp (S : State) (these : ObjectName → Bool) (o : ObjectName) : Type 0 where
  -- it is a root
  ByRoot : (n : Node) → node S o.node ≡ Some n → is_root n o.serial ≡ true → IsHeldUp S these o
  -- an invocation names it
  ByInvocation : (port : ℕ) → (n : Node) → node S port ≡ Some n →
      has_object (stack_objects n.stack) o ≡ true → IsHeldUp S these o
  -- an item on its way names it
  ByItem : (from : ℕ) → (to : ℕ) → (items : List Item) → queue S from to ≡ Some items →
      list_any (λ item. has_object (map (λ x. x.object) (names from to item)) o) items ≡ true →
      IsHeldUp S these o
  -- a slot of one of these objects names it, on any node
  BySlot : (port : ℕ) → (n : Node) → (x : Stored) → node S port ≡ Some n → IsIn n.heap x →
      these (object_at port x.serial) ≡ true → has_object (objects_in x.slots) o ≡ true →
      IsHeldUp S these o

-- The objects that all nodes together keep: stored ones that hold one another up, and all others
-- that do so
pub record AreKeptByAll (S : State) (these : ObjectName → Bool) : Type 0 where
  pub part : (o : ObjectName) → these o ≡ true → is_stored S o ≡ true
  pub held_up : (o : ObjectName) → these o ≡ true → IsHeldUp S these o
  pub greatest : (others : ObjectName → Bool) →
      ((o : ObjectName) → others o ≡ true → is_stored S o ≡ true) →
      ((o : ObjectName) → others o ≡ true → IsHeldUp S others o) →
      (o : ObjectName) → others o ≡ true → these o ≡ true

-- what each node keeps between its steps: its own port, a heap that holds itself up with the
-- entries of the state, and no foreign object that it does not refer to
pub record NodesKeep (S : State) : Type 0 where
  pub port : (p : ℕ) (n : Node) → node S p ≡ Some n → n.port ≡ p
  pub heap : (p : ℕ) (n : Node) → node S p ≡ Some n → HoldsItself (around S n).entry n n.heap
  pub held : (p : ℕ) (n : Node) → node S p ≡ Some n → RefersToHeld n
