-- The objects that slots and invocations name, and whether their nodes can use them.
use Rattle.do_base.specs.declared.events.event.Event.TheVariants as events
use Rattle.std.specs.Prelude.{Bool, List, Some, [], if◌then◌else◌, is_some, true, ℕ, ◌++◌, ◌≡◌}
use Rattle.std.specs.List.{AllByRecursion}
use Rattle.do_base.specs.{names.Names.ObjectName, values.Values.objects_of}
use Rattle.do_base.specs.declared.{events.event.Event.Event, values.value.Value.Value}
use Rattle.do_class.specs.Class.{Class}
use Rattle.do_behave.specs.{Answers.NamesShown, declared.invocation.Invocation.Invocation}
use Rattle.do_packet.specs.Met.{has_object}
use Rattle.do_machine.specs.declared.{node.Node.Node, state.State.State}
use Rattle.do_machine.specs.State.{is_known, is_own, node, stored}
use Rattle.do_machine.specs.{held.Refers.{heap_objects, stack_objects}, run.Run.Acting}
use Rattle.do_facts.specs.Made.{is_stored}

-- the node can use an object: an own one that it stores, or a foreign one that it holds or asked
-- for
abbrev pub is_at_hand : Node → ObjectName → Bool
is_at_hand n o = if is_own n o then is_some (stored o.serial n.heap) else is_known n o

-- what the slots and the invocations of a node name
abbrev pub in_use : Node → List ObjectName
in_use n = heap_objects n.heap ++ stack_objects n.stack

-- each object that a slot or an invocation names is at hand there
pub record AllAtHand (S : State) : Type 0 where
  pub each : (port : ℕ) (n : Node) → node S port ≡ Some n → (o : ObjectName) →
      has_object (in_use n) o ≡ true → is_at_hand n o ≡ true

-- each object that a slot or an invocation names is stored at its home
pub record NamedAreStored (S : State) : Type 0 where
  pub each : (port : ℕ) (n : Node) → node S port ≡ Some n → (o : ObjectName) →
      has_object (in_use n) o ≡ true → is_stored S o ≡ true

-- over a table the acts of a behaviour name only what they were shown
abbrev pub ShowsNames : List Class → Acting → Type 0
ShowsNames table act =
    (i : Invocation) (slots : List Value) → NamesShown i slots (act table i slots)

-- a start gives no objects
abbrev pub StartsPlain : Event → Type 0
StartsPlain (events.Start port selector values) = AllByRecursion (λ v. objects_of v ≡ []) values
StartsPlain _ = Unit {0}
