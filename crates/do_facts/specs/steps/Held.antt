-- A node refers to what it holds.
use Rattle.std.specs.Prelude.{Some, true, ℕ, ◌≡◌}
use Rattle.do_base.specs.names.Names.{ObjectName}
use Rattle.do_packet.specs.Met.{has_object}
use Rattle.do_machine.specs.{declared.{node.Node.Node, state.State.State}, State.{holds, node}}
use Rattle.do_machine.specs.held.Refers.{node_objects}

-- each foreign object that a node holds is named in a slot, an invocation, a lend or an ask
abbrev pub RefersToHeld : Node → Type 0
RefersToHeld n = (o : ObjectName) → holds n o ≡ true → has_object (node_objects n) o ≡ true

-- so it is at each node of a state
pub record AllReferToHeld (S : State) : Type 0 where
  pub each : (port : ℕ) (n : Node) → node S port ≡ Some n → RefersToHeld n
