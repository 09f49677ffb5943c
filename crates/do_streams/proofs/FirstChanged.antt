-- The first element that passes: where it stands, and what comes of changing it.
use Rattle.std.proofs.Common.{◌≡◌, Bool, true, false, cond, List, [], ◌∷◌, Option, Some, None, refl}
use Rattle.std.{proofs.Common.{ap, sym, ◌∙◌, map}, specs.List.find}
use Rattle.do_machine.specs.Lists.{change_first}

module _ {X : Type 0} (p : X → Bool) where
  -- where none is found nothing changes
  pub change_none : (f : X → X) (xs : List X) → find p xs ≡ None → change_first p f xs ≡ xs
  change_none f [] e = refl
  change_none f (y ∷ ys) e =
      elim (p y) as (λ b. cond b (Some y) (find p ys) ≡ None →
      cond b (f y ∷ ys) (y ∷ change_first p f ys) ≡ y ∷ ys) [
        | true ↦ λ k. absurd (cc)
        | false ↦ λ k. ap (λ t. y ∷ t) (change_none f ys k)
      ] e

  -- a change of the first puts what it makes of the one that is found
  pub change_found : (f g : X → X) (xs : List X) (x : X) → find p xs ≡ Some x → f x ≡ g x →
      change_first p f xs ≡ change_first p g xs
  change_found f g [] x e h = refl
  change_found f g (y ∷ ys) x e h =
      elim (p y) as (λ b. cond b (Some y) (find p ys) ≡ Some x →
      cond b (f y ∷ ys) (y ∷ change_first p f ys)
      ≡ cond b (g y ∷ ys) (y ∷ change_first p g ys)) [
        | true ↦ λ k.
            let same : y ≡ x = cc in
            ap (λ v. v ∷ ys) (ap f same ∙ h ∙ sym (ap g same))
        | false ↦ λ k. ap (λ t. y ∷ t) (change_found f g ys x k h)
      ] e

  -- one that still passes is changed again
  pub change_again : (f g : X → X) → ((x : X) → p (f x) ≡ p x) → (xs : List X) →
      change_first p g (change_first p f xs) ≡ change_first p (λ x. g (f x)) xs
  change_again f g alike [] = refl
  change_again f g alike (y ∷ ys) =
      elim (p y) as (λ b. p y ≡ b →
      change_first p g (cond b (f y ∷ ys) (y ∷ change_first p f ys))
      ≡ cond b (g (f y) ∷ ys) (y ∷ change_first p (λ x. g (f x)) ys)) [
        | true ↦ λ h.
            ap (λ b. cond b (g (f y) ∷ ys) (f y ∷ change_first p g ys)) (alike y ∙ h)
        | false ↦ λ h.
            ap (λ b. cond b (g y ∷ change_first p f ys)
            (y ∷ change_first p g (change_first p f ys))) h
            ∙ ap (λ t. y ∷ t) (change_again f g alike ys)
      ] refl

  -- and is found as it was changed
  pub found_changed : (f : X → X) → ((x : X) → p (f x) ≡ p x) → (xs : List X) (x : X) →
      find p xs ≡ Some x → find p (change_first p f xs) ≡ Some (f x)
  found_changed f alike [] x e = absurd (cc)
  found_changed f alike (y ∷ ys) x e =
      elim (p y) as (λ b. p y ≡ b → cond b (Some y) (find p ys) ≡ Some x →
      find p (cond b (f y ∷ ys) (y ∷ change_first p f ys)) ≡ Some (f x)) [
        | true ↦ λ h k.
            let same : y ≡ x = cc in
            ap (λ b. cond b (Some (f y)) (find p ys)) (alike y ∙ h) ∙ ap (λ v. Some (f v)) same
        | false ↦ λ h k.
            ap (λ b. cond b (Some y) (find p (change_first p f ys))) h
            ∙ found_changed f alike ys x k
      ] refl e

module _ {X Y : Type 0} (p : X → Bool) (g : X → Y) (q : Y → Bool) (alike : (x : X) → q (g x) ≡ p x)
  where
    -- what comes of a list in which one is put for the first that passes
    pub put_mapped : (z : X) (xs : List X) →
        map g (change_first p (λ x. z) xs) ≡ change_first q (λ y. g z) (map g xs)
    put_mapped z [] = refl
    put_mapped z (y ∷ ys) =
        elim (p y) as (λ b.
        map g (cond b (z ∷ ys) (y ∷ change_first p (λ x. z) ys))
        ≡ cond b (g z ∷ map g ys) (g y ∷ change_first q (λ y. g z) (map g ys))) [
          | true ↦ refl
          | false ↦ ap (λ vs. g y ∷ vs) (put_mapped z ys)
        ]
        ∙ sym (ap (λ b. cond b (g z ∷ map g ys)
        (g y ∷ change_first q (λ y. g z) (map g ys))) (alike y))

module _ {X : Type 0} (p q : X → Bool) (f g : X → X) (past : (x : X) → p (g x) ≡ p x)
    (back : (x : X) → q (f x) ≡ q x) (both : (x : X) → f (g x) ≡ g (f x)) where
  -- changes of which neither moves what the other looks for can be done in either order
  pub change_swaps : (xs : List X) →
      change_first p f (change_first q g xs) ≡ change_first q g (change_first p f xs)
  change_swaps [] = refl
  change_swaps (y ∷ ys) = go (change_swaps ys) (p y) (q y) refl refl
    where
      -- so for a head that passes either test, both or none
      go : change_first p f (change_first q g ys) ≡ change_first q g (change_first p f ys) →
          (a b : Bool) → p y ≡ a → q y ≡ b →
          change_first p f (cond b (g y ∷ ys) (y ∷ change_first q g ys))
          ≡ change_first q g (cond a (f y ∷ ys) (y ∷ change_first p f ys))
      go behind true true e h =
          ap (λ c. cond c (f (g y) ∷ ys) (g y ∷ change_first p f ys)) (past y ∙ e)
          ∙ ap (λ v. v ∷ ys) (both y)
          ∙ sym (ap (λ c. cond c (g (f y) ∷ ys) (f y ∷ change_first q g ys)) (back y ∙ h))
      go behind true false e h =
          ap (λ c. cond c (f y ∷ change_first q g ys)
          (y ∷ change_first p f (change_first q g ys))) e
          ∙ sym (ap (λ c. cond c (g (f y) ∷ ys) (f y ∷ change_first q g ys)) (back y ∙ h))
      go behind false true e h =
          ap (λ c. cond c (f (g y) ∷ ys) (g y ∷ change_first p f ys)) (past y ∙ e)
          ∙ sym (ap (λ c. cond c (g y ∷ change_first p f ys)
          (y ∷ change_first q g (change_first p f ys))) h)
      go behind false false e h =
          ap (λ c. cond c (f y ∷ change_first q g ys)
          (y ∷ change_first p f (change_first q g ys))) e
          ∙ ap (λ t. y ∷ t) behind
          ∙ sym (ap (λ c. cond c (g y ∷ change_first p f ys)
          (y ∷ change_first q g (change_first p f ys))) h)

module _ {X Y : Type 0} (p q : X → Bool) (g : X → X) (past : (x : X) → p (g x) ≡ p x)
    (of_found : Option X → Y) (alike : (x : X) → of_found (Some (g x)) ≡ of_found (Some x)) where
  -- what is taken of the first that passes is so too once one was changed in other respects
  pub found_past : (xs : List X) → of_found (find p (change_first q g xs)) ≡ of_found (find p xs)
  found_past [] = refl
  found_past (y ∷ ys) = go (found_past ys) (p y) (q y) refl
    where
      -- so for a head that passes either test, both or none
      go : of_found (find p (change_first q g ys)) ≡ of_found (find p ys) → (a b : Bool) →
          p y ≡ a →
          of_found (find p (cond b (g y ∷ ys) (y ∷ change_first q g ys)))
          ≡ of_found (cond a (Some y) (find p ys))
      go behind true true e =
          ap (λ c. of_found (cond c (Some (g y)) (find p ys))) (past y ∙ e) ∙ alike y
      go behind false true e =
          ap (λ c. of_found (cond c (Some (g y)) (find p ys))) (past y ∙ e)
      go behind true false e =
          ap (λ c. of_found (cond c (Some y) (find p (change_first q g ys)))) e
      go behind false false e =
          ap (λ c. of_found (cond c (Some y) (find p (change_first q g ys)))) e ∙ behind

module _ {X Y : Type 0} (q : X → Bool) (g : X → X) (h : X → Y)
    (alike : (x : X) → h (g x) ≡ h x) where
  -- what is taken of each is as before once one was changed in other respects
  pub mapped_past : (xs : List X) → map h (change_first q g xs) ≡ map h xs
  mapped_past [] = refl
  mapped_past (y ∷ ys) =
      elim (q y) as (λ b. map h (cond b (g y ∷ ys) (y ∷ change_first q g ys)) ≡ h y ∷ map h ys) [
        | true ↦ ap (λ v. v ∷ map h ys) (alike y)
        | false ↦ ap (λ vs. h y ∷ vs) (mapped_past ys)
      ]

-- a change that leaves each as it is leaves the list
pub change_same : {X : Type 0} (q : X → Bool) (xs : List X) → change_first q (λ x. x) xs ≡ xs
change_same q [] = refl
change_same q (y ∷ ys) =
    elim (q y) as (λ b. cond b (y ∷ ys) (y ∷ change_first q (λ x. x) ys) ≡ y ∷ ys) [
      | true ↦ refl
      | false ↦ ap (λ t. y ∷ t) (change_same q ys)
    ]
