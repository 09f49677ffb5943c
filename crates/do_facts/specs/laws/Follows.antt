-- What a node keeps through its steps.
use Rattle.do_base.specs.declared.events.event.Event.TheVariants as events
use Rattle.std.specs.Prelude.{None, Some, [], true, ℕ, ◌≡◌, ◌≤◌}
use Rattle.do_base.specs.{names.Names.ObjectName, declared.events.event.Event.Event}
use Rattle.do_machine.specs.declared.{node.Node.Node, state.State.State}
use Rattle.do_machine.specs.State.{holds, is_open, node}

-- the node's end is open towards the home of each object that it holds
pub record HoldsOpen (n : Node) : Type 0 where
  pub reached : (o : ObjectName) → holds n o ≡ true → is_open n o.node ≡ true

-- a node after any steps: its numbers are no lower, no end opened, and it holds over open ends
pub record Grows (n m : Node) : Type 0 where
  pub port : m.port ≡ n.port
  pub serial : n.next_serial ≤ m.next_serial
  pub call : n.next_call ≤ m.next_call
  pub token : n.next_token ≤ m.next_token
  pub ends : (peer : ℕ) → is_open m peer ≡ true → is_open n peer ≡ true
  pub holding : HoldsOpen n → HoldsOpen m

-- a node after steps without time-outs: no call became late either
pub record Follows (n m : Node) : Type 0 where
  pub grows : Grows n m
  pub late : n.late ≡ [] → m.late ≡ []

-- the nodes of a state are those of another, and each stands so to what it was there
pub record EachNode (R : Node → Node → Type 0) (S T : State) : Type 0 where
  pub stands : (port : ℕ) (n : Node) → node S port ≡ Some n →
      (m : Node) × (node T port ≡ Some m) × R n m
  pub absent : (port : ℕ) → node S port ≡ None → node T port ≡ None

-- each node of a state holds over open ends
pub record AllHoldOpen (S : State) : Type 0 where
  pub each : (port : ℕ) (n : Node) → node S port ≡ Some n → HoldsOpen n

-- the event is no time-out
abbrev pub IsNoTimeOut : Event → Type 0
IsNoTimeOut (events.Timeout port) = ⊥
IsNoTimeOut _ = Unit {0}
