-- How numbers compare, and what it says that neither of two facts holds.
use Rattle.std.proofs.Common.{◌≡◌, ℕ, suc, ◌<◌, ◌≤◌, Bool, true, false, ◌||◌, ◌==◌, T, refl, subst}
use Rattle.std.{proofs.Common.arith, specs.{Prelude.nat_lt, Ordering.{nat_cmp, is_lt, eq_by_cmp}}}
use Rattle.std.proofs.lemmas.Bool.{ltb-false, ltb-true, Decides.nat_tests}
use Rattle.std.specs.declared.cmp.Ordering.TheVariants.{Less, Equal, Greater}

-- of two facts of which neither holds the first does not
pub first_false : (a b : Bool) → (a || b) ≡ false → a ≡ false
first_false true b h = h
first_false false b h = refl

-- nor does the second
pub second_false : (a b : Bool) → (a || b) ≡ false → b ≡ false
second_false true b h = absurd (subst T h tt)
second_false false b h = h

-- a number below another comes before it
pub below_is : (n m : ℕ) → n < m → T (is_lt (nat_cmp n m))
below_is n m h = grind (arith, nat_tests)

-- what comes before a number is below it
pub less_is : (n m : ℕ) → nat_cmp n m ≡ Less → n < m
less_is n m h = grind (arith, nat_tests)

-- what ties with a number is that number
pub equal_is : (n m : ℕ) → nat_cmp n m ≡ Equal → m ≡ n
equal_is n m h = grind (arith, nat_tests)

-- what comes behind a number is above it
pub greater_is : (n m : ℕ) → nat_cmp n m ≡ Greater → m < n
greater_is n m h = grind (arith, nat_tests)

-- a number is no higher one
pub unequal : (n m : ℕ) → n < m → (m == n) ≡ false
unequal n m h = grind (arith, nat_tests)

-- a number is no lower one
pub lower_unequal : (m n : ℕ) → m < n → (m == n) ≡ false
lower_unequal m n h = grind (arith, nat_tests)

-- a number is itself
pub are_equal : (m n : ℕ) → m ≡ n → (m == n) ≡ true
are_equal m n h = grind (arith, nat_tests)

-- what ties is that number
pub tie_is : (n m : ℕ) → eq_by_cmp nat_cmp n m ≡ true → m ≡ n
tie_is n m h = grind (arith, nat_tests)

-- what does not tie is another number
pub no_tie : (n m : ℕ) → eq_by_cmp nat_cmp n m ≡ false → (m == n) ≡ false
no_tie n m h = grind (arith, nat_tests)

-- a number does not tie with a higher one
pub apart : (n m : ℕ) → n < m → eq_by_cmp nat_cmp n m ≡ false
apart n m h = grind (arith, nat_tests)

-- a number is before a higher one
pub is_before : (n m : ℕ) → n < m → nat_lt n m ≡ true
is_before n m h = grind (arith, nat_tests)

-- a number is not before a lower one
pub not_before : (n m : ℕ) → m < n → nat_lt n m ≡ false
not_before n m h = grind (arith, nat_tests)

-- a number that comes before another is below it
pub is_below : (n m : ℕ) → T (is_lt (nat_cmp n m)) → n < m
is_below n m h = grind (arith, nat_tests)

-- a number is not before one that is no higher
no_higher : (n m : ℕ) → m ≤ n → nat_lt n m ≡ false
no_higher n m h = grind (arith, nat_tests)

-- two numbers compare as those one higher do
pub one_higher : (n m : ℕ) → nat_lt (suc n) (suc m) ≡ nat_lt n m
one_higher n m =
    elim (nat_lt n m) as (λ b. nat_lt n m ≡ b → nat_lt (suc n) (suc m) ≡ b) [
      | true ↦ λ h. is_before (suc n) (suc m) (omega (arith, ltb-true n m h))
      | false ↦ λ h. no_higher (suc n) (suc m) (omega (arith, ltb-false n m h))
    ] refl
