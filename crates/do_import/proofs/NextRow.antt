-- A loop that reads a list's items by their places.
use Rattle.std.proofs.Common.{◌≡◌, ℕ, zero, suc, ◌+◌, ◌≤◌, List, [], ◌∷◌, ◌++◌, length, take, drop}
use Rattle.std.proofs.Common.{Some, None, slice_get, sym, ap, ◌∙◌, arith, map as each}
use mathlib.Core.Bool.{false≢true}
use Rattle.std.{specs.Option.is_some, proofs.lemmas.{Grind.take_at_read, List.at_drop_more}}
use Rattle.std.proofs.lemmas.{List.map_push, Option.{slice_get_within, get_or_from_slice_get}}

module _ {X : Type 0} where
  -- one item more is read
  take_row : (xs : List X) (i : ℕ) (x : X) → slice_get xs i ≡ Some x
      → take (i + 1) xs ≡ take i xs ++ x ∷ []
  take_row xs i x at = (take_at_read xs i x (slice_get_within xs i x at)).1
      ∙ ap (λ y. take i xs ++ y ∷ []) (get_or_from_slice_get xs i x x at)

  -- and what is made of each item so far is made of it too
  pub read_row : {Y Z : Type 0} (f : Y → Z) (g : X → Y) (xs : List X) (i : ℕ) (x : X)
      → slice_get xs i ≡ Some x
      → each f (each g (take (i + 1) xs)) ≡ each f (each g (take i xs)) ++ f (g x) ∷ []
  read_row f g xs i x at = ap (λ l. each f (each g l)) (take_row xs i x at)
      ∙ ap (each f) (map_push g (take i xs) x) ∙ map_push f (each g (take i xs)) (g x)

  -- it is the first of those that were left
  pub drop_row : (xs : List X) (i : ℕ) (x : X) → slice_get xs i ≡ Some x
      → drop i xs ≡ x ∷ drop (i + 1) xs
  drop_row xs i x at = at_drop_more (λ l. l) xs i x (slice_get_within xs i x at)
      ∙ ap (λ y. y ∷ drop (i + 1) xs) (get_or_from_slice_get xs i x x at)

  -- where there is no item, the list has ended
  pub no_row : (xs : List X) (i : ℕ) → slice_get xs i ≡ None → length xs ≤ i
  no_row [] i none = omega arith
  no_row (x ∷ xs) zero none = absurd (false≢true (sym (ap is_some none)))
  no_row (x ∷ xs) (suc i) none = omega (arith, no_row xs i none)
