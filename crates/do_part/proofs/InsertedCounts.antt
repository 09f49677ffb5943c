-- As many elements pass of inserted ones as of these.
use Rattle.std.proofs.Common.{◌≡◌, suc, ◌+◌, Bool, true, false, cond, ◌||◌, List, [], ◌∷◌, length}
use Rattle.std.{proofs.Common.{count_by, refl, ap, ◌∙◌, arith}, specs.List.list_any}
use Rattle.do_machine.{specs.Lists.all_inserted, proofs.PutInOrder.{inserted_is, put_in}}
use Rattle.do_import.proofs.RowCounts.{in_front}

module _ {X : Type 0} (before : X → X → Bool) where
  -- as many pass of the elements with one more as of both
  pub count-put : (p : X → Bool) (x : X) (xs : List X)
      → count_by p (put_in before x xs) ≡ cond (p x) 1 0 + count_by p xs
  count-put p x [] = in_front p x []
  count-put p x (y ∷ ys) = go (before x y) (count-put p x ys)
    where
      go : (b : Bool) → count_by p (put_in before x ys) ≡ cond (p x) 1 0 + count_by p ys
          → count_by p (cond b (x ∷ y ∷ ys) (y ∷ put_in before x ys))
          ≡ cond (p x) 1 0 + count_by p (y ∷ ys)
      go true later = in_front p x (y ∷ ys)
      go false later =
          let a = in_front p y (put_in before x ys) in
          let b = in_front p y ys in
          omega (arith, later, a, b)

  -- as many pass of inserted elements as of these
  pub count-all : (p : X → Bool) (xs : List X)
      → count_by p (all_inserted before xs) ≡ count_by p xs
  count-all p [] = refl
  count-all p (x ∷ xs) =
      let a = count-put p x (all_inserted before xs) in
      let b = ap (count_by p) (inserted_is before x (all_inserted before xs)) in
      let c = count-all p xs in
      let d = in_front p x xs in
      omega (arith, a, b, c, d)

  -- as many elements are inserted as there were
  length-put : (x : X) (xs : List X) → length (put_in before x xs) ≡ suc (length xs)
  length-put x [] = refl
  length-put x (y ∷ ys) = go (before x y) (length-put x ys)
    where
      go : (b : Bool) → length (put_in before x ys) ≡ suc (length ys)
          → length (cond b (x ∷ y ∷ ys) (y ∷ put_in before x ys)) ≡ suc (suc (length ys))
      go true later = refl
      go false later = ap suc later

  -- so it is of all
  pub length-all : (xs : List X) → length (all_inserted before xs) ≡ length xs
  length-all [] = refl
  length-all (x ∷ xs) = ap length (inserted_is before x (all_inserted before xs))
      ∙ length-put x (all_inserted before xs) ∙ ap suc (length-all xs)

  -- whether one passes of the elements with one more
  any-put : (p : X → Bool) (x : X) (xs : List X)
      → list_any p (put_in before x xs) ≡ (p x || list_any p xs)
  any-put p x [] = refl
  any-put p x (y ∷ ys) = go (before x y) (any-put p x ys)
    where
      turned : (a b c : Bool) → (a || (b || c)) ≡ (b || (a || c))
      turned true true c = refl
      turned true false c = refl
      turned false b c = refl

      go : (b : Bool) → list_any p (put_in before x ys) ≡ (p x || list_any p ys)
          → list_any p (cond b (x ∷ y ∷ ys) (y ∷ put_in before x ys)) ≡ (p x || list_any p (y ∷ ys))
      go true later = refl
      go false later = ap (λ b. p y || b) later ∙ turned (p y) (p x) (list_any p ys)

  -- whether one passes of inserted elements
  pub any-all : (p : X → Bool) (xs : List X) → list_any p (all_inserted before xs) ≡ list_any p xs
  any-all p [] = refl
  any-all p (x ∷ xs) = ap (list_any p) (inserted_is before x (all_inserted before xs))
      ∙ any-put p x (all_inserted before xs) ∙ ap (λ b. p x || b) (any-all p xs)
