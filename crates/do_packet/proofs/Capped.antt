-- Sums that are told in 64 bits.
use Rattle.std.proofs.{Common.{◌≡◌, ◌+◌, ℕ, arith}, lemmas.Grind.common_steps}
use Rattle.do_packet.specs.Packing.{capped}

-- what is told of a sum is told of it by what is told of its second part
pub capped_right : (a b : ℕ) → capped (a + capped b) ≡ capped (a + b)
capped_right a b = grind (arith, common_steps)

-- and by what is told of both
pub capped_both : (a b : ℕ) → capped (capped a + capped b) ≡ capped (a + b)
capped_both a b = grind (arith, common_steps)

-- numbers below 2^64 are told as they are
pub capped_small : capped 1 ≡ 1
capped_small = grind (arith, common_steps)

pub ruleset capped_steps = (capped_right, capped_both, capped_small)
