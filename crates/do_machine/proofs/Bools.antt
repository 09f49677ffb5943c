-- Tests and their joins.
use Rattle.std.proofs.Common.{◌≡◌, ◌||◌, ◌⊎◌, Bool, true, false, arith}

-- a test or nothing
pub or_false : (a : Bool) → (a || false) ≡ a
or_false a = grind (arith)

-- a test that can't pass fails
pub fails : (b : Bool) → (b ≡ true → ⊥) → b ≡ false
fails b h = grind (arith, h)

-- one of two tests that passed
pub or_cases : (a b : Bool) → (a || b) ≡ true → (a ≡ true) ⊎ (b ≡ true)
or_cases a b e = grind (arith, e)

-- the first of two tests passed
pub or_left : (a b : Bool) → a ≡ true → (a || b) ≡ true
or_left a b e = grind (arith, e)

-- the second of two tests passed
pub or_right : (a b : Bool) → b ≡ true → (a || b) ≡ true
or_right a b e = grind (arith, e)
