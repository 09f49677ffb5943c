-- When a network has the nodes and the queues of a state of the machine.
use Rattle.std.specs.Prelude.{List, Some, false, map, option_map, ℕ, ◌==◌, ◌≡◌}
use Rattle.do_machine.specs.declared.{node.Node.Node, state.State.State}
use Rattle.do_machine.specs.State.{node, ports, queue}
use Rattle.do_network.specs.{Net.{Net, channel, net_ports, part_at}, fits.Notes.Note}

-- A network has the nodes of a state, and what is under way is of the items that wait there
pub record Shows (N : Net) (under_way : ℕ → ℕ → List Note) (S : State) : Type 0 where
  pub ports : net_ports N ≡ ports S
  pub nodes : (port : ℕ) → option_map (λ p. p.own.node) (part_at N port) ≡ node S port
  pub queues : (from to : ℕ) → option_map (λ c. map (λ x. x.item) (under_way from to))
      (channel N from to) ≡ queue S from to

-- So it is but for the node of one port, which is another in the state
pub record ShowsBut (port : ℕ) (n : Node) (N : Net) (under_way : ℕ → ℕ → List Note) (S : State) :
    Type 0 where
  pub ports : net_ports N ≡ ports S
  pub here : node S port ≡ Some n
  pub nodes : (other : ℕ) → (port == other) ≡ false →
      option_map (λ p. p.own.node) (part_at N other) ≡ node S other
  pub queues : (from to : ℕ) → option_map (λ c. map (λ x. x.item) (under_way from to))
      (channel N from to) ≡ queue S from to
