-- What tests that pass say.
use Rattle.std.proofs.Common.{◌≡◌, ℕ, ◌<◌, Bool, true, false, ltb, refl, arith}
use Rattle.std.{specs.Prelude.{◌||◌, ◌&&◌, not}, proofs.lemmas.Bool.Decides.nat_tests}

-- two that hold
pub both : (a b : Bool) → a ≡ true → b ≡ true → (a && b) ≡ true
both a b p q = rw (p, q) refl

-- both of two that hold
pub both_pass : (a b : Bool) → (a && b) ≡ true → (a ≡ true) × (b ≡ true)
both_pass true b e = (refl, e)
both_pass false b e = absurd cc

-- what is not true is false
pub not_true : (t : Bool) → not t ≡ true → t ≡ false
not_true true e = absurd cc
not_true false e = refl

-- where the first side fails the second holds
pub second_side : (a b : Bool) → a ≡ false → (a || b) ≡ true → b ≡ true
second_side a b p e = rw p at e

-- a number that passes is below
pub less_test : (m n : ℕ) → ltb m n ≡ true → m < n
less_test m n e = grind (arith, nat_tests)
