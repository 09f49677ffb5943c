-- Elements that pass a test are among all, and pass it.
use Rattle.std.proofs.Common.{◌≡◌, Bool, true, false, cond, List, [], ◌∷◌, filter, refl, subst, inl}
use Rattle.std.proofs.Common.{inr}
use Rattle.do_machine.specs.Lists.{IsIn}

-- what passes is among all
pub in_filter : {X : Type 0} (p : X → Bool) (xs : List X) (w : X) → IsIn (filter p xs) w → IsIn xs w
in_filter p [] w a = a
in_filter p (x ∷ xs) w a = go (p x) (in_filter p xs w) a
  where
    go : (b : Bool) → (IsIn (filter p xs) w → IsIn xs w)
        → IsIn (cond b (x ∷ filter p xs) (filter p xs)) w → IsIn (x ∷ xs) w
    go true later (inl e) = inl e
    go true later (inr a) = inr (later a)
    go false later a = inr (later a)

-- what is among what passes passes
pub in_passing : {X : Type 0} (p : X → Bool) (xs : List X) (w : X) → IsIn (filter p xs) w
    → p w ≡ true
in_passing p [] w a = absurd a
in_passing p (x ∷ xs) w a = go (p x) refl (in_passing p xs w) a
  where
    go : (b : Bool) → p x ≡ b → (IsIn (filter p xs) w → p w ≡ true)
        → IsIn (cond b (x ∷ filter p xs) (filter p xs)) w → p w ≡ true
    go true e later (inl same) = subst (λ v. p v ≡ true) same e
    go true e later (inr a) = later a
    go false e later a = later a
