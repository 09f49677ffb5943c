-- The test of a digit.
use Rattle.std.{proofs.Common.{◌≡◌, ℕ, ◌<◌, ◌≤◌, true, false, leb, arith}, specs.Prelude.◌&&◌}
use Rattle.std.proofs.lemmas.Bool.Decides.{nat_tests}

-- a byte below the digits is none
pub no_digit_below : (b : ℕ) → b < 48 → (leb 48 b && leb b 57) ≡ false
no_digit_below b h = grind (arith, nat_tests)

-- a byte above them is none
pub no_digit_above : (b : ℕ) → 57 < b → (leb 48 b && leb b 57) ≡ false
no_digit_above b h = grind (arith, nat_tests)

-- a byte between is a digit
pub is_one_digit : (b : ℕ) → 48 ≤ b → b ≤ 57 → (leb 48 b && leb b 57) ≡ true
is_one_digit b p q = grind (arith, nat_tests)

-- a digit is not below them
pub digit_low : (b : ℕ) → (leb 48 b && leb b 57) ≡ true → 48 ≤ b
digit_low b e = grind (arith, nat_tests)

-- nor above them
pub digit_high : (b : ℕ) → (leb 48 b && leb b 57) ≡ true → b ≤ 57
digit_high b e = grind (arith, nat_tests)
