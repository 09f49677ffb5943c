-- Numbers that a test tells apart or not.
use Rattle.std.proofs.{Common.{◌≡◌, ◌==◌, ℕ, true, false, arith}, lemmas.Bool.Decides.nat_tests}

-- a number is itself
pub same_number : (n : ℕ) → (n == n) ≡ true
same_number n = grind (arith, nat_tests)

-- and not apart from itself
pub never_apart : (n : ℕ) → (n == n) ≡ false → ⊥
never_apart n e = grind (arith, nat_tests, e)

-- two numbers are apart the other way
pub flipped : (a b : ℕ) → (a == b) ≡ false → (b == a) ≡ false
flipped a b e = grind (arith, nat_tests, e)
