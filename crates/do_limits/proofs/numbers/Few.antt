-- Numbers of a node are small after few events.
use Rattle.std.proofs.Common.{arith, ℕ, ◌<◌}
use Rattle.do_machine.specs.declared.node.Node.{Node}
use Rattle.do_limits.specs.Numbers.{HasSmallNumbers, NumbersWithin}

-- after fewer than 2^46
pub few_small : (count : ℕ) (n : Node) → count < 70368744177664 → NumbersWithin count n →
    HasSmallNumbers n
few_small count n few h = record {
  call = omega (arith, few, h.call);
  serial = omega (arith, few, h.serial);
  token = omega (arith, few, h.token);
}
