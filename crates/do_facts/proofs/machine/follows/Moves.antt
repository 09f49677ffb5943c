-- What holds of each move of a state.
use Rattle.std.{proofs.Common.{◌≡◌, ℕ, List}, specs.Prelude.Some}
use Rattle.do_machine.specs.declared.{item.Item.Item, node.Node.Node, state.Effect.Effect}
use Rattle.do_machine.specs.{declared.state.State.State, Commit.commit}
use Rattle.do_machine.specs.State.{change, node, with_queue}

-- A relation of states that each move of a node keeps, where the node stands so to what it was
pub record Moves (G : Node → Node → Type 0) (K : State → State → Type 0) : Type 0 where
  pub same : (S : State) → K S S
  pub after : (S T U : State) → K S T → K T U → K S U
  pub commits : (port : ℕ) (e : Effect) (S : State) (n : Node) → node S port ≡ Some n →
      G n e.node → K S (commit port e S)
  pub requeues : (from to : ℕ) (items : List Item) (S : State) →
      K S (change from (with_queue to items) S)
