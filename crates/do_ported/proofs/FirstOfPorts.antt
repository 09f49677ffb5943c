-- Ports in a list, by where they stand, and what has them.
use Rattle.std.proofs.Common.{◌≡◌, ◌==◌, ◌||◌, ℕ, zero, suc, ◌<◌, ◌+◌, ◌-◌, true, false, cond, List}
use Rattle.std.proofs.Common.{[], ◌∷◌, inl, inr, Some, None, is_some, length, map, refl, ap, sym}
use Rattle.std.{proofs.Common.{◌∙◌, arith}, specs.Prelude.{nat_lt, slice_get, slice_set}}
use Rattle.std.specs.List.{find, list_any, position, position_or_len, remove}
use Rattle.std.specs.List.Sorted.{IsNonDecreasing}
use Rattle.std.proofs.lemmas.{Bool.cases_lt, Grind.common_steps, List.length-map}
use Rattle.std.proofs.lemmas.List.Edits.{get_or-remove_above, get_or-remove_below, length-remove}
use Rattle.std.proofs.lemmas.List.Recursion.{is_position_or_len}

-- the first place of a list is its head's, or one behind
stands : (t x : ℕ) (xs : List ℕ) → is_some (position (λ p. t == p) (x ∷ xs))
    ≡ ((t == x) || is_some (position (λ p. t == p) xs))
stands t x xs = grind (arith, common_steps)

-- numbers are equal either way round
pub equal_either_way : (t x : ℕ) → (t == x) ≡ (x == t)
equal_either_way t x = grind arith

-- a port has a place just where it is one of the list
pub place_is_among : (t : ℕ) (xs : List ℕ) →
    is_some (position (λ p. t == p) xs) ≡ list_any (λ p. p == t) xs
place_is_among t [] = refl
place_is_among t (x ∷ xs) = stands t x xs
    ∙ ap (λ b. b || is_some (position (λ p. t == p) xs)) (equal_either_way t x)
    ∙ ap (λ b. (x == t) || b) (place_is_among t xs)

-- ports that rise do so without one of them
pub rises_without : (xs : List ℕ) (i : ℕ) → i < length xs → IsNonDecreasing xs →
    IsNonDecreasing (remove xs i)
rises_without xs i within rising j k d le inside =
    let n = length-remove xs i within in
    let size : k + 1 < length xs = omega (arith, n, inside, within) in
    elim (cases_lt k i) [
      | inl below ↦
          rw (
            get_or-remove_below xs i d j (omega (arith, le, below)) within,
            get_or-remove_below xs i d k below within,
          )
          (rising j k d le (omega (arith, size)))
      | inr above ↦ elim (cases_lt j i) [
        | inl first ↦
            rw (
              get_or-remove_below xs i d j first within,
              get_or-remove_above xs i d k above within,
            )
            (rising j (k + 1) d (omega (arith, le)) size)
        | inr later ↦
            rw (
              get_or-remove_above xs i d j later within,
              get_or-remove_above xs i d k above within,
            )
            (rising (j + 1) (k + 1) d (omega (arith, le)) size)
      ]
    ]

-- a port that is not the first stands one place further than behind it
stands_behind : (x : ℕ) (xs : List ℕ) (t : ℕ) → position_or_len (λ p. t == p) (x ∷ xs)
    ≡ cond (t == x) 0 (1 + position_or_len (λ p. t == p) xs)
stands_behind x xs t = grind (arith, common_steps)

module _ {X : Type 0} (n : X → ℕ) where
  -- a port stands where that stands which has it
  pub place_of_port : (t : ℕ) (xs : List X) →
      position (λ p. t == p) (map n xs) ≡ position (λ x. t == n x) xs
  place_of_port t xs =
      let at : position_or_len (λ p. t == p) (map n xs) ≡ position_or_len (λ x. t == n x) xs =
      is_position_or_len (λ ys. position_or_len (λ p. t == p) (map n ys)) (λ x. t == n x) refl
      (λ y ys. stands_behind (n y) (map n ys) t) xs in
      let size : length (map n xs) ≡ length xs = length-map xs n in
      λ j. cond (nat_lt (at j) (size j)) (Some (at j)) None

  -- the ports stay where what has one is set that has the same
  pub ports_stay : (xs : List X) (i : ℕ) (x z : X) → slice_get xs i ≡ Some x → n z ≡ n x →
      map n (slice_set xs i z) ≡ map n xs
  ports_stay [] i x z at same = refl
  ports_stay (y ∷ ys) zero x z at same =
      let is : y ≡ x = cc in ap (λ p. p ∷ map n ys) (same ∙ sym (ap n is))
  ports_stay (y ∷ ys) (suc i) x z at same = ap (λ ps. n y ∷ ps) (ports_stay ys i x z at same)

  -- of a port that is none of them nothing is found
  pub none_of_port : (t : ℕ) (xs : List X) → list_any (λ p. p == t) (map n xs) ≡ false →
      find (λ x. t == n x) xs ≡ None
  none_of_port t [] none = refl
  none_of_port t (x ∷ xs) none =
      elim (n x == t) as (λ b. (n x == t) ≡ b →
      (b || list_any (λ p. p == t) (map n xs)) ≡ false →
      cond (t == n x) (Some x) (find (λ y. t == n y) xs) ≡ None) [
        | true ↦ λ here k. absurd (cc)
        | false ↦ λ here k.
            ap (λ b. cond b (Some x) (find (λ y. t == n y) xs))
            (equal_either_way t (n x) ∙ here)
            ∙ none_of_port t xs k
      ] refl none

  -- of one of them something is
  pub some_of_port : (t : ℕ) (xs : List X) → list_any (λ p. p == t) (map n xs) ≡ true →
      (x : X) × (find (λ y. t == n y) xs ≡ Some x)
  some_of_port t [] some = absurd (cc)
  some_of_port t (x ∷ xs) some =
      elim (n x == t) as (λ b. (n x == t) ≡ b →
      (b || list_any (λ p. p == t) (map n xs)) ≡ true →
      (y : X) × (cond (t == n x) (Some x) (find (λ z. t == n z) xs) ≡ Some y)) [
        | true ↦ λ here k. (
          x,
          ap (λ b. cond b (Some x) (find (λ z. t == n z) xs))
              (equal_either_way t (n x) ∙ here),
        )
        | false ↦ λ here k.
            let behind = some_of_port t xs k in (
              behind.0,
              ap (λ b. cond b (Some x) (find (λ z. t == n z) xs))
                  (equal_either_way t (n x) ∙ here)
                  ∙ behind.1,
            )
      ] refl some
