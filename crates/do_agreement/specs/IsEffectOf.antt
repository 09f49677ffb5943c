-- What is known of an effect of a site's node.
use Rattle.std.specs.Prelude.{Bool, filter, true, ℕ, ◌≡◌}
use Rattle.do_base.specs.names.Names.{ObjectName}
use Rattle.do_machine.specs.{declared.{node.Node.Node, state.Effect.Effect}, State.is_open}
use Rattle.do_facts.specs.laws.Follows.{HoldsOpen}
use Rattle.do_agreement.specs.Accounted.{AccountsFor}

-- What a node holds after an effect are those that pass of what it held
pub record Thins (n : Node) (e : Effect) : Type 0 where
  pub test : ObjectName → Bool
  pub held : e.node.held ≡ filter test n.held

-- The effect opens no end, and the node holds no more after it, over open ends, and accounts for
-- what it held
pub record IsEffectOf (n : Node) (e : Effect) : Type 0 where
  pub same : e.node.port ≡ n.port
  pub ends : (peer : ℕ) → is_open e.node peer ≡ true → is_open n peer ≡ true
  pub opened : HoldsOpen e.node
  pub thins : Thins n e
  pub account : (home : ℕ) → AccountsFor home n e
