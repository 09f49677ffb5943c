-- The first element that passes: what stands there, what a change of it is, and what comes of it.
use Rattle.std.proofs.Common.{◌≡◌, ℕ, suc, Bool, true, false, cond, List, [], ◌∷◌, Some, None, refl}
use Rattle.std.proofs.Common.{ap, sym, ◌∙◌, subst, arith, map}
use Rattle.std.specs.{Prelude.{slice_get, slice_set}, List.{find, position, position_or_len}}
use Rattle.std.proofs.lemmas.Grind.{common_steps}
use Rattle.do_machine.specs.Lists.{change_first}

module _ {X : Type 0} (p : X → Bool) where
  -- a first place that passes is the head
  here : (x : X) (xs : List X) (i : ℕ) → p x ≡ true → position p (x ∷ xs) ≡ Some i → i ≡ 0
  here x xs i h e = grind (arith, common_steps)

  -- or it stands behind a head that does not pass
  later : (x : X) (xs : List X) (i : ℕ) → p x ≡ false → position p (x ∷ xs) ≡ Some i →
      (position p xs ≡ Some (position_or_len p xs)) × (i ≡ suc (position_or_len p xs))
  later x xs i h e = (grind (arith, common_steps), grind (arith, common_steps))

  -- where none passes, the head does not, nor any behind it
  none_later : (x : X) (xs : List X) → position p (x ∷ xs) ≡ None →
      (p x ≡ false) × (position p xs ≡ None)
  none_later x xs e = (grind (arith, common_steps), grind (arith, common_steps))

  -- what stands at the first place is found
  pub found_at : (xs : List X) (i : ℕ) (x : X) → position p xs ≡ Some i →
      slice_get xs i ≡ Some x → find p xs ≡ Some x
  found_at [] i x e g = cc
  found_at (y ∷ ys) i x e g =
      elim (p y) as (λ b. p y ≡ b → cond b (Some y) (find p ys) ≡ Some x) [
        | true ↦ λ h.
            subst (λ n. slice_get (y ∷ ys) n ≡ Some x → Some y ≡ Some x) (sym (here y ys i h e))
            (λ k. k) g
        | false ↦ λ h.
            let s = later y ys i h e in
            subst (λ n. slice_get (y ∷ ys) n ≡ Some x → find p ys ≡ Some x) (sym s.1)
            (λ k. found_at ys (position_or_len p ys) x s.0 k) g
      ] refl

  -- and is what is found
  pub get_first : (xs : List X) (i : ℕ) → position p xs ≡ Some i → slice_get xs i ≡ find p xs
  get_first [] i e = absurd (cc)
  get_first (y ∷ ys) i e =
      elim (p y) as (λ b. p y ≡ b → slice_get (y ∷ ys) i ≡ cond b (Some y) (find p ys)) [
        | true ↦ λ h. ap (slice_get (y ∷ ys)) (here y ys i h e)
        | false ↦ λ h.
            let s = later y ys i h e in
            ap (slice_get (y ∷ ys)) s.1 ∙ get_first ys (position_or_len p ys) s.0
      ] refl

  -- where there is no first place none is found
  pub found_none : (xs : List X) → position p xs ≡ None → find p xs ≡ None
  found_none [] e = refl
  found_none (y ∷ ys) e =
      let s = none_later y ys e in
      ap (λ b. cond b (Some y) (find p ys)) s.0 ∙ found_none ys s.1

  -- what is found passes
  pub found_passes : (xs : List X) (x : X) → find p xs ≡ Some x → p x ≡ true
  found_passes [] x e = absurd (cc)
  found_passes (y ∷ ys) x e =
      elim (p y) as (λ b. p y ≡ b → cond b (Some y) (find p ys) ≡ Some x → p x ≡ true) [
        | true ↦ λ h k. let same : y ≡ x = cc in subst (λ v. p v ≡ true) same h
        | false ↦ λ h k. found_passes ys x k
      ] refl e

  -- where the element at the first place is changed, that is the change of the first
  change_first_at : (f : X → X) (xs : List X) (i : ℕ) (x : X) → position p xs ≡ Some i →
      slice_get xs i ≡ Some x → change_first p f xs ≡ slice_set xs i (f x)
  change_first_at f [] i x e g = cc
  change_first_at f (y ∷ ys) i x e g =
      elim (p y) as (λ b. p y ≡ b →
      cond b (f y ∷ ys) (y ∷ change_first p f ys) ≡ slice_set (y ∷ ys) i (f x)) [
        | true ↦ λ h.
            subst (λ n. slice_get (y ∷ ys) n ≡ Some x →
            f y ∷ ys ≡ slice_set (y ∷ ys) n (f x)) (sym (here y ys i h e))
            (λ g. let same : y ≡ x = cc in ap (λ v. f v ∷ ys) same) g
        | false ↦ λ h.
            let s = later y ys i h e in
            subst (λ n. slice_get (y ∷ ys) n ≡ Some x →
            y ∷ change_first p f ys ≡ slice_set (y ∷ ys) n (f x)) (sym s.1)
            (λ g. ap (λ t. y ∷ t) (change_first_at f ys (position_or_len p ys) x s.0 g)) g
      ] refl

  -- what is put at the first place is put for the first that passes
  pub put_first : (xs : List X) (i : ℕ) (z : X) → position p xs ≡ Some i →
      slice_set xs i z ≡ change_first p (λ x. z) xs
  put_first [] i z e = refl
  put_first (y ∷ ys) i z e =
      elim (p y) as (λ b. p y ≡ b →
      slice_set (y ∷ ys) i z ≡ cond b (z ∷ ys) (y ∷ change_first p (λ x. z) ys)) [
        | true ↦ λ h. ap (λ n. slice_set (y ∷ ys) n z) (here y ys i h e)
        | false ↦ λ h.
            let s = later y ys i h e in
            ap (λ n. slice_set (y ∷ ys) n z) s.1
            ∙ ap (λ t. y ∷ t) (put_first ys (position_or_len p ys) z s.0)
      ] refl

  -- where none passes nothing changes
  pub change_first_none : (f : X → X) (xs : List X) → position p xs ≡ None →
      change_first p f xs ≡ xs
  change_first_none f [] e = refl
  change_first_none f (y ∷ ys) e =
      let s = none_later y ys e in
      rw s.0 (ap (λ t. y ∷ t) (change_first_none f ys s.1))

-- a changed element that is put at the first place that passes
pub first_set : {X : Type 0} (p : X → Bool) (f : X → X) (xs : List X) (i : ℕ) (x y : X) →
    position p xs ≡ Some i → slice_get xs i ≡ Some x → y ≡ f x →
    slice_set xs i y ≡ change_first p f xs
first_set p f xs i x y e g same =
    ap (λ v. slice_set xs i v) same ∙ sym (change_first_at p f xs i x e g)

pub ruleset first_steps = (first_set, change_first_none)

module _ {X Y : Type 0} (p : X → Bool) (g : X → Y) (q : Y → Bool) (alike : (x : X) → q (g x) ≡ p x)
  where
    -- what is found of what comes of elements comes of what is found
    pub found_map : (xs : List X) (x : X) → find p xs ≡ Some x → find q (map g xs) ≡ Some (g x)
    found_map [] x e = absurd (cc)
    found_map (y ∷ ys) x e =
        ap (λ b. cond b (Some (g y)) (find q (map g ys))) (alike y)
        ∙ elim (p y) as (λ b. cond b (Some y) (find p ys) ≡ Some x →
        cond b (Some (g y)) (find q (map g ys)) ≡ Some (g x)) [
          | true ↦ λ k. let same : y ≡ x = cc in ap (λ v. Some (g v)) same
          | false ↦ λ k. found_map ys x k
        ] e

    -- and where none is found, none is found of what comes of them
    pub none_map : (xs : List X) → find p xs ≡ None → find q (map g xs) ≡ None
    none_map [] e = refl
    none_map (y ∷ ys) e =
        ap (λ b. cond b (Some (g y)) (find q (map g ys))) (alike y)
        ∙ elim (p y) as (λ b. cond b (Some y) (find p ys) ≡ None →
        cond b (Some (g y)) (find q (map g ys)) ≡ None) [
          | true ↦ λ k. absurd (cc)
          | false ↦ λ k. none_map ys k
        ] e
