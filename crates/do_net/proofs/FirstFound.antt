-- What is put for the first element that passes, and what is put in.
use Rattle.std.proofs.Common.{◌≡◌, ℕ, zero, suc, Bool, true, false, cond, List, [], ◌∷◌, Some, refl}
use Rattle.std.proofs.Common.{ap, sym, ◌∙◌, subst, map}
use Rattle.std.specs.{Prelude.{slice_get, slice_set}, List.{find, insert, AllByRecursion}}
use Rattle.do_machine.specs.Lists.{change_first}

module _ {X Y : Type 0} (p : X → Bool) (g : X → Y) (q : Y → Bool) (alike : (x : X) → q (g x) ≡ p x)
  where
    -- what comes of elements of which the first changed is the change of the first
    pub change_map : (f : Y → Y) (z : X) (xs : List X) (x : X) → find p xs ≡ Some x →
        g z ≡ f (g x) → map g (change_first p (λ v. z) xs) ≡ change_first q f (map g xs)
    change_map f z [] x e h = refl
    change_map f z (y ∷ ys) x e h =
        elim (p y) as (λ b. cond b (Some y) (find p ys) ≡ Some x →
        map g (cond b (z ∷ ys) (y ∷ change_first p (λ v. z) ys))
        ≡ cond b (f (g y) ∷ map g ys) (g y ∷ change_first q f (map g ys))) [
          | true ↦ λ k.
              let same : y ≡ x = cc in ap (λ v. v ∷ map g ys) (h ∙ sym (ap (λ v. f (g v)) same))
          | false ↦ λ k. ap (λ vs. g y ∷ vs) (change_map f z ys x k h)
        ] e
        ∙ sym (ap (λ b. cond b (f (g y) ∷ map g ys) (g y ∷ change_first q f (map g ys))) (alike y))

module _ {X : Type 0} (P : X → Type 0) where
  -- each is such where one such more is put in
  pub each_changed : (p : X → Bool) (z : X) (xs : List X) → AllByRecursion P xs → P z →
      AllByRecursion P (change_first p (λ v. z) xs)
  each_changed p z [] a h = tt
  each_changed p z (y ∷ ys) a h =
      elim (p y) as (λ b. AllByRecursion P (cond b (z ∷ ys) (y ∷ change_first p (λ v. z) ys))) [
        | true ↦ (h, a.1)
        | false ↦ (a.0, each_changed p z ys a.1 h)
      ]

  -- what is found is such
  pub each_found : (p : X → Bool) (xs : List X) (x : X) → AllByRecursion P xs →
      find p xs ≡ Some x → P x
  each_found p [] x a e = absurd (cc)
  each_found p (y ∷ ys) x a e =
      elim (p y) as (λ b. cond b (Some y) (find p ys) ≡ Some x → P x) [
        | true ↦ λ k. let same : y ≡ x = cc in subst P same a.0
        | false ↦ λ k. each_found p ys x a.1 k
      ] e

-- what is set as it was stays
pub set_same : {X : Type 0} (xs : List X) (i : ℕ) (x : X) → slice_get xs i ≡ Some x →
    slice_set xs i x ≡ xs
set_same [] i x e = absurd (cc)
set_same (y ∷ ys) zero x e = let same : y ≡ x = cc in ap (λ v. v ∷ ys) (sym same)
set_same (y ∷ ys) (suc i) x e = ap (λ vs. y ∷ vs) (set_same ys i x e)

-- what comes of a list with one more in it
pub map_put : {X Y : Type 0} (g : X → Y) (xs : List X) (i : ℕ) (x : X) →
    map g (insert xs i x) ≡ insert (map g xs) i (g x)
map_put g [] zero x = refl
map_put g [] (suc i) x = refl
map_put g (y ∷ ys) zero x = refl
map_put g (y ∷ ys) (suc i) x = ap (λ vs. g y ∷ vs) (map_put g ys i x)

-- the first that is found changed to itself
pub change_same : {X : Type 0} (p : X → Bool) (xs : List X) (x : X) → find p xs ≡ Some x →
    change_first p (λ v. x) xs ≡ xs
change_same p [] x e = refl
change_same p (y ∷ ys) x e =
    elim (p y) as (λ b. cond b (Some y) (find p ys) ≡ Some x →
    cond b (x ∷ ys) (y ∷ change_first p (λ v. x) ys) ≡ y ∷ ys) [
      | true ↦ λ k. let same : y ≡ x = cc in ap (λ v. v ∷ ys) (sym same)
      | false ↦ λ k. ap (λ vs. y ∷ vs) (change_same p ys x k)
    ] e
