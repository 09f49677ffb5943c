-- Where a list has an element that is inserted, and what is among its elements then.
use Rattle.std.proofs.Common.{◌≡◌, ℕ, suc, ◌+◌, ◌++◌, Bool, true, false, cond, not, ◌⊎◌, inl, inr}
use Rattle.std.proofs.Common.{List, [], ◌∷◌, length, Some, None, refl, ap, ◌∙◌, subst, arith}
use Rattle.std.{specs.{Prelude.nat_lt, List.position_or_len}, proofs.lemmas.Bool.Decides.nat_tests}
use Rattle.do_machine.specs.Lists.{IsIn, all_inserted, inserted, put_at}

-- a number is before a higher one, and one higher than two numbers compares as they do
first_place : (n : ℕ) → nat_lt 0 (suc n) ≡ true
first_place n = grind (arith, nat_tests)

-- two numbers compare as those one higher do
one_higher : (n m : ℕ) → nat_lt (suc n) (suc m) ≡ nat_lt n m
one_higher n m = grind (arith, nat_tests)

module _ {X : Type 0} (before : X → X → Bool) where
  -- an element before the first that comes after it
  abbrev pub put_in : X → List X → List X
  put_in x [] = x ∷ []
  put_in x (y ∷ ys) = cond (before x y) (x ∷ y ∷ ys) (y ∷ put_in x ys)

  -- so it is inserted
  pub inserted_is : (x : X) (xs : List X) → inserted before x xs ≡ put_in x xs
  inserted_is x [] = refl
  inserted_is x (y ∷ ys) = go (before x y) (inserted_is x ys)
    where
      -- it stands one place later then, or behind all
      behind : (at : ℕ) (b : Bool) → put_at x (y ∷ ys) (cond b (Some (suc at)) None)
          ≡ y ∷ put_at x ys (cond b (Some at) None)
      behind at true = refl
      behind at false = refl

      -- one more is the next number
      next : (n : ℕ) → 1 + n ≡ suc n
      next n = omega arith

      go : (b : Bool) → inserted before x ys ≡ put_in x ys
          → put_at x (y ∷ ys) (cond (nat_lt (cond (not b) (1 + position_or_len (before x) ys) 0)
          (suc (length ys))) (Some (cond (not b) (1 + position_or_len (before x) ys) 0)) None)
          ≡ cond b (x ∷ y ∷ ys) (y ∷ put_in x ys)
      go true later =
          ap (λ c. put_at x (y ∷ ys) (cond c (Some 0) None)) (first_place (length ys))
      go false later =
          let rest = position_or_len (before x) ys in
          ap (λ n. put_at x (y ∷ ys) (cond (nat_lt n (suc (length ys))) (Some n) None)) (next rest)
          ∙ ap (λ c. put_at x (y ∷ ys) (cond c (Some (suc rest)) None))
          (one_higher rest (length ys))
          ∙ behind rest (nat_lt rest (length ys))
          ∙ ap (λ l. y ∷ l) later

  -- what is among the elements with one more is it or one of these
  pub in_put : (x : X) (xs : List X) (w : X) → IsIn (put_in x xs) w → (x ≡ w) ⊎ IsIn xs w
  in_put x [] w a = a
  in_put x (y ∷ ys) w a = go (before x y) (in_put x ys w) a
    where
      go : (b : Bool) → (IsIn (put_in x ys) w → (x ≡ w) ⊎ IsIn ys w)
          → IsIn (cond b (x ∷ y ∷ ys) (y ∷ put_in x ys)) w → (x ≡ w) ⊎ IsIn (y ∷ ys) w
      go true later a = a
      go false later (inl e) = inr (inl e)
      go false later (inr a) = elim (later a) [ inl e ↦ inl e | inr h ↦ inr (inr h) ]

  -- what is among inserted elements is one of them
  pub in_all : (xs : List X) (w : X) → IsIn (all_inserted before xs) w → IsIn xs w
  in_all [] w a = a
  in_all (x ∷ xs) w a =
      elim (in_put x (all_inserted before xs) w
      (subst (λ l. IsIn l w) (inserted_is x (all_inserted before xs)) a)) [
        | inl e ↦ inl e
        | inr h ↦ inr (in_all xs w h)
      ]

  -- an element that comes before all goes first
  pub put_first : (x : X) (xs : List X) → ((w : X) → IsIn xs w → before x w ≡ true)
      → put_in x xs ≡ x ∷ xs
  put_first x [] all = refl
  put_first x (y ∷ ys) all =
      ap (λ b. cond b (x ∷ y ∷ ys) (y ∷ put_in x ys)) (all y (inl refl))

  -- an element that comes before none goes last
  pub put_last : (x : X) (xs : List X) → ((w : X) → IsIn xs w → before x w ≡ false)
      → put_in x xs ≡ xs ++ x ∷ []
  put_last x [] none = refl
  put_last x (y ∷ ys) none =
      ap (λ b. cond b (x ∷ y ∷ ys) (y ∷ put_in x ys)) (none y (inl refl))
      ∙ ap (λ l. y ∷ l) (put_last x ys (λ w a. none w (inr a)))
