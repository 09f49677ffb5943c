-- How far the numbers of nodes rise.
use Rattle.std.specs.Prelude.{Some, ℕ, ◌*◌, ◌+◌, ◌<◌, ◌^◌, ◌≡◌, ◌≤◌}
use Rattle.do_packet.specs.{Copies.most_copies, Limits.most_names}
use Rattle.do_machine.specs.{declared.{node.Node.Node, state.State.State}, State.node}

-- The numbers of a node after so many events: calls, tokens and serials begin with 1, and the root
-- has the first serial
pub record NumbersWithin (count : ℕ) (n : Node) : Type 0 where
  pub call : n.next_call ≤ 1 + count
  pub serial : n.next_serial ≤ 2 + most_copies * count
  pub token : n.next_token ≤ 1 + most_names * count

-- the numbers of each node of a state after so many events
abbrev pub AllNumbersWithin : ℕ → State → Type 0
AllNumbersWithin count S =
    (port : ℕ) (n : Node) → node S port ≡ Some n → NumbersWithin count n

-- The numbers of a node's next call, object and lend are below 2^62
pub record HasSmallNumbers (n : Node) : Type 0 where
  pub call : n.next_call < 2 ^ 62
  pub serial : n.next_serial < 2 ^ 62
  pub token : n.next_token < 2 ^ 62
