-- Ports of which none stands twice.
use Rattle.std.proofs.Common.{◌≡◌, ℕ, Bool, true, false, List, [], ◌∷◌, ◌||◌, length, arith, refl}
use Rattle.std.proofs.Common.{subst, sym}
use Rattle.std.specs.{Prelude.◌==◌, List.{AllByRecursion, IsDistinct, list_any}}

-- neither of two tests passes where not one of them does
neither : (a b : Bool) → (a || b) ≡ false → (a ≡ false) × (b ≡ false)
neither false b e = (refl, e)
neither true b e = absurd cc

-- a port that is not among others is none of them
none_among : (x : ℕ) (xs : List ℕ) → list_any (λ p. x == p) xs ≡ false →
    AllByRecursion (λ y. (x == y) ≡ false) xs
none_among x [] e = tt
none_among x (y ∷ ys) e =
    let both = neither (x == y) (list_any (λ p. x == p) ys) e in (
      both.0,
      none_among x ys both.1,
    )

-- no ports are distinct ones
pub none_distinct : (ps : List ℕ) → length ps ≡ 0 → IsDistinct (λ (p q : ℕ). p == q) ps
unfolding IsDistinct
none_distinct [] none = tt
none_distinct (p ∷ ps) none = absurd (omega (arith, none))

-- ports are distinct where the others are, and the first is not among them
pub more_distinct : (ps rest : List ℕ) (x : ℕ) → ps ≡ x ∷ rest →
    list_any (λ p. x == p) rest ≡ false → IsDistinct (λ (p q : ℕ). p == q) rest →
    IsDistinct (λ (p q : ℕ). p == q) ps
unfolding IsDistinct
more_distinct ps rest x is none apart =
    subst (λ (qs : List ℕ). IsDistinct (λ (p q : ℕ). p == q) qs) (sym is)
    (none_among x rest none, apart)
