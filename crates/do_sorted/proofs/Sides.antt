-- Lists of two sides and an item between them: what an edit at or behind that item is.
use Rattle.std.proofs.Common.{◌≡◌, ℕ, zero, suc, ◌+◌, ◌<◌, List, [], ◌∷◌, ◌++◌, length, Some}
use Rattle.std.proofs.Common.{slice_get, refl, ap, sym, arith, length-append}
use mathlib.Core.Bool.{false≢true}
use Rattle.std.specs.List.{insert, remove}

module _ {X : Type 0} where
  -- the item between the sides
  pub slice_get_here : (xs ys : List X) (x : X) (i : ℕ) → i ≡ length xs
      → slice_get (xs ++ x ∷ ys) i ≡ Some x
  slice_get_here [] ys x zero e = refl
  slice_get_here [] ys x (suc i) e = absurd (omega arith)
  slice_get_here (z ∷ xs) ys x zero e = absurd (omega arith)
  slice_get_here (z ∷ xs) ys x (suc i) e = slice_get_here xs ys x i (omega arith)

  -- an item put in behind it
  pub insert_behind : (xs ys : List X) (x y : X) (i j : ℕ) → i ≡ length xs + 1 + j
      → insert (xs ++ x ∷ ys) i y ≡ xs ++ x ∷ insert ys j y
  insert_behind [] ys x y zero j e = absurd (omega arith)
  insert_behind [] ys x y (suc i) j e =
      let same : i ≡ j = omega arith in
      ap (λ k. x ∷ insert ys k y) same
  insert_behind (z ∷ xs) ys x y zero j e = absurd (omega arith)
  insert_behind (z ∷ xs) ys x y (suc i) j e =
      ap (λ l. z ∷ l) (insert_behind xs ys x y i j (omega arith))

  -- an item taken out behind it
  pub remove_behind : (xs ys : List X) (x : X) (i j : ℕ) → i ≡ length xs + 1 + j
      → remove (xs ++ x ∷ ys) i ≡ xs ++ x ∷ remove ys j
  remove_behind [] ys x zero j e = absurd (omega arith)
  remove_behind [] ys x (suc i) j e =
      let same : i ≡ j = omega arith in
      ap (λ k. x ∷ remove ys k) same
  remove_behind (z ∷ xs) ys x zero j e = absurd (omega arith)
  remove_behind (z ∷ xs) ys x (suc i) j e =
      ap (λ l. z ∷ l) (remove_behind xs ys x i j (omega arith))

  -- the item itself taken out
  pub remove_here : (xs ys : List X) (x : X) (i : ℕ) → i ≡ length xs
      → remove (xs ++ x ∷ ys) i ≡ xs ++ ys
  remove_here [] ys x zero e = refl
  remove_here [] ys x (suc i) e = absurd (omega arith)
  remove_here (z ∷ xs) ys x zero e = absurd (omega arith)
  remove_here (z ∷ xs) ys x (suc i) e = ap (λ l. z ∷ l) (remove_here xs ys x i (omega arith))

  -- a first item and what is behind it
  pub first_off : (ys : List X) (y : X) → slice_get ys 0 ≡ Some y → y ∷ remove ys 0 ≡ ys
  first_off [] y e = absurd (false≢true (ap Rattle.std.specs.Option.is_some e))
  first_off (z ∷ ys) y e = ap (λ o. Rattle.std.specs.Option.unwrap_or o z ∷ ys) (sym e)

  -- each side is shorter than the whole
  pub sides_shorter : (xs : List X) (x : X) (ys : List X)
      → record {
        before : length xs < length (xs ++ x ∷ ys);
        behind : length ys < length (xs ++ x ∷ ys);
      }
  sides_shorter xs x ys =
      record {
        before = omega (arith, length-append xs (x ∷ ys));
        behind = omega (arith, length-append xs (x ∷ ys));
      }
