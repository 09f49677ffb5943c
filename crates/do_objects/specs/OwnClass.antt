-- Each invocation runs a method of its object's class.
use Rattle.std.specs.{Prelude.{List, None, Some, ℕ, ◌<◌, ◌≡◌, ◌≤◌}, List.AllByRecursion}
use Rattle.do_class.specs.declared.ids.ClassId.{ClassId}
use Rattle.do_behave.specs.declared.invocation.Invocation.{Invocation}
use Rattle.do_machine.specs.declared.{node.{Node.Node, Stored.Stored}, state.State.State}
use Rattle.do_machine.specs.State.{node, stored}

-- an object of this serial was made, and it is of this class as long as it is stored
abbrev pub WasMadeOf : Node → ℕ → ClassId → Type 0
WasMadeOf n serial class =
    (serial < n.next_serial) × ((x : Stored) → stored serial n.heap ≡ Some x → x.class ≡ class)

-- each of these invocations is of an object that was made, of the class of its method
abbrev pub HaveOwnMethods : Node → List Invocation → Type 0
HaveOwnMethods n is = AllByRecursion (λ i. WasMadeOf n i.object.serial i.method.class) is

-- the node stores no serial that it did not give
abbrev pub StoresGiven : Node → Type 0
StoresGiven n = (serial : ℕ) → n.next_serial ≤ serial → stored serial n.heap ≡ None

-- a node that stores no serial that it did not give, and whose invocations have such methods
pub record IsSound (n : Node) : Type 0 where
  pub given : StoresGiven n
  pub invocations : HaveOwnMethods n n.stack

-- each node of a state is sound
pub record AllSound (S : State) : Type 0 where
  pub each : (port : ℕ) (n : Node) → node S port ≡ Some n → IsSound n
