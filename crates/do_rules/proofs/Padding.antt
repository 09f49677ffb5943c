-- Lists of nil.
use Rattle.std.proofs.Common.{◌≡◌, ℕ, zero, suc, List as Listed, [], ◌∷◌, ◌++◌, length, map}
use Rattle.std.proofs.Common.{replicate, refl, ap}
use Rattle.do_base.specs.declared.values.value.Value.TheVariants.{Nil}

-- one nil more
pub one_more : (k : ℕ) → replicate k Nil ++ Nil ∷ [] ≡ replicate (suc k) Nil
one_more zero = refl
one_more (suc k) = ap (λ vs. Nil ∷ vs) (one_more k)

pub ruleset nil_steps = (one_more)

-- nil for each is as many nils
pub nil_for_each : {X : Type 0} (xs : Listed X) → replicate (length xs) Nil ≡ map (λ x. Nil) xs
nil_for_each [] = refl
nil_for_each (x ∷ xs) = ap (λ vs. Nil ∷ vs) (nil_for_each xs)

pub ruleset as_many_nils = (nil_for_each)
