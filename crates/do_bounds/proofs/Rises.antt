-- How far an input raises the numbers of a node.
use Rattle.std.proofs.Common.{arith, ℕ, ◌*◌, ◌+◌, ◌≤◌}
use Rattle.do_packet.specs.{Copies.most_copies, Limits.most_names}
use Rattle.do_machine.specs.declared.node.Node.{Node}
use Rattle.do_limits.{proofs.numbers.MovesRise.Rises, specs.Numbers.NumbersWithin}

-- a node makes by so many runs and frames one call at most each, as many objects as a message
-- copies, and as many lends as a message names objects
pub record RisesBy (count : ℕ) (n m : Node) : Type 0 where
  pub call : m.next_call ≤ n.next_call + count
  pub serial : m.next_serial ≤ n.next_serial + most_copies * count
  pub token : m.next_token ≤ n.next_token + most_names * count

-- by one effect
pub by_one : (n m : Node) → Rises n m → RisesBy 1 n m
by_one n m h = record {
  call = omega (arith, h.call);
  serial = omega (arith, h.serial);
  token = omega (arith, h.token);
}

-- numbers rise further
pub further : (count more : ℕ) (n m : Node) → NumbersWithin count n → RisesBy more n m →
    NumbersWithin (count + more) m
further count more n m h k = record {
  call = omega (arith, h.call, k.call);
  serial = omega (arith, h.serial, k.serial);
  token = omega (arith, h.token, k.token);
}
