-- What stands once in a list is found by its number.
use Rattle.std.proofs.Common.{◌≡◌, ◌==◌, ◌∙◌, ℕ, Bool, true, false, cond, List, [], ◌∷◌, refl, sym}
use Rattle.std.proofs.Common.{ap, subst, inl, inr}
use Rattle.std.specs.List.{AllByRecursion, IsDistinct, filter}
use Rattle.std.proofs.lemmas.Map.Keys.{IsDistinct-cons, IsDistinct-head, IsDistinct-tail}
use Rattle.do_machine.specs.Lists.{IsIn}

-- what holds of each element holds of one
pub each_in : {X : Type 0} (P : X → Type 0) (xs : List X) (x : X) → AllByRecursion P xs →
    IsIn xs x → P x
each_in P [] x all i = absurd i
each_in P (y ∷ ys) x all (inl e) = subst P e all.0
each_in P (y ∷ ys) x all (inr i) = each_in P ys x all.1 i

-- what passes a test that it is chosen by is in the list
pub chosen_in : {X : Type 0} (test : X → Bool) (xs : List X) (x : X) →
    IsIn (filter test xs) x → IsIn xs x × (test x ≡ true)
chosen_in test [] x i = absurd i
chosen_in test (y ∷ ys) x i = go (test y) refl (chosen_in test ys x) i
  where
    go : (b : Bool) → test y ≡ b → (IsIn (filter test ys) x → IsIn ys x × (test x ≡ true)) →
        IsIn (cond b (y ∷ filter test ys) (filter test ys)) x → IsIn (y ∷ ys) x × (test x ≡ true)
    go true e k (inl same) = (inl same, ap test (sym same) ∙ e)
    go true e k (inr j) = let r = k j in (inr r.0, r.1)
    go false e k j = let r = k j in (inr r.0, r.1)

-- what passes is chosen
pub in_chosen : {X : Type 0} (test : X → Bool) (xs : List X) (x : X) → IsIn xs x →
    test x ≡ true → IsIn (filter test xs) x
in_chosen test [] x i h = absurd i
in_chosen test (y ∷ ys) x i h = go (test y) refl (in_chosen test ys x) i
  where
    go : (b : Bool) → test y ≡ b → (IsIn ys x → test x ≡ true → IsIn (filter test ys) x) →
        IsIn (y ∷ ys) x → IsIn (cond b (y ∷ filter test ys) (filter test ys)) x
    go true e k (inl same) = inl same
    go true e k (inr j) = inr (k j h)
    go false e k (inl same) = absurd (no (ap test same ∙ h) e)
      where
        no : test y ≡ true → test y ≡ false → ⊥
        no p q = cc
    go false e k (inr j) = k j h

-- what is chosen of different numbers is different
pub chosen_distinct : (test : ℕ → Bool) (ps : List ℕ) → IsDistinct (λ (p q : ℕ). p == q) ps →
    IsDistinct (λ (p q : ℕ). p == q) (filter test ps)
chosen_distinct test [] d = d
chosen_distinct test (p ∷ ps) d =
    go (test p) (chosen_distinct test ps (IsDistinct-tail (λ (x y : ℕ). x == y) p ps d))
  where
    all_chosen : (P : ℕ → Type 0) (qs : List ℕ) → AllByRecursion P qs →
        AllByRecursion P (filter test qs)
    all_chosen P [] a = tt
    all_chosen P (q ∷ qs) a = pick (test q) (all_chosen P qs a.1)
      where
        pick : (b : Bool) → AllByRecursion P (filter test qs) →
            AllByRecursion P (cond b (q ∷ filter test qs) (filter test qs))
        pick true k = (a.0, k)
        pick false k = k

    go : (b : Bool) → IsDistinct (λ (x y : ℕ). x == y) (filter test ps) →
        IsDistinct (λ (x y : ℕ). x == y) (cond b (p ∷ filter test ps) (filter test ps))
    go true k = IsDistinct-cons (λ (x y : ℕ). x == y) p (filter test ps)
        (all_chosen (λ y. (p == y) ≡ false) ps (IsDistinct-head (λ (x y : ℕ). x == y) p ps d)) k
    go false k = k
