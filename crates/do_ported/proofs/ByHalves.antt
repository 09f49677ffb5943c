-- What a search by halves finds where numbers rise.
use Rattle.std.proofs.Common.{◌≡◌, ◌==◌, ℕ, zero, suc, ◌≤◌, ◌<◌, true, false, List, [], ◌∷◌, Some}
use Rattle.std.proofs.Common.{None, inl, inr, get_or, length, refl, ap, sym, subst, ◌∙◌, arith}
use Rattle.std.specs.{Prelude.{slice_get, slice_set}, List.{position, position_or_len}}
use Rattle.std.specs.List.Sorted.{IsNonDecreasingBy}
use Rattle.std.proofs.lemmas.{Bool.{cases_lt, ltb-false, ltb-true}, List.Sums.position_or_len_is}
use Rattle.std.proofs.lemmas.Option.{get_or_from_slice_get, slice_get-get_or, slice_get_within}
use Rattle.do_ported.specs.Rising.{IsHalved}

-- a lower number is another
lower_apart : (t m : ℕ) → m < t → (t == m) ≡ false
lower_apart t m h = grind (arith, h)

-- so is a higher one
higher_apart : (t m : ℕ) → t < m → (t == m) ≡ false
higher_apart t m h = grind (arith, h)

-- another number that is no lower is higher
apart_higher : (t m : ℕ) → t ≤ m → (t == m) ≡ false → t < m
apart_higher t m le h = grind (arith, le, h)

module _ {X : Type 0} (n : X → ℕ) (t : ℕ) where
  -- no element before it has the number
  none_before : (xs : List X) (i : ℕ) → IsHalved n t xs i → (k : ℕ) (d : X) → k < i →
      (t == n (get_or xs k d)) ≡ false
  none_before xs i half k d h =
      lower_apart t (n (get_or xs k d))
      (ltb-true (n (get_or xs k d)) t (half.0 k d (omega arith) h))

  -- an element there that has the number is the first
  pub first_there : (xs : List X) (i : ℕ) (x : X) → IsHalved n t xs i → slice_get xs i ≡ Some x →
      (t == n x) ≡ true → Some i ≡ position (λ y. t == n y) xs
  first_there xs i x half there passes =
      let within : i < length xs = slice_get_within xs i x there in
      let is : position_or_len (λ y. t == n y) xs ≡ i =
      position_or_len_is (λ y. t == n y) xs i x (omega (arith, within))
      (λ k h. none_before xs i half k x h)
      (λ h. ap (λ y. t == n y) (get_or_from_slice_get xs i x x there) ∙ passes) in
      grind (arith, is, within)

  -- where none stands there that has the number, none has
  none_has : (xs : List X) (i : ℕ) (d : X) → IsNonDecreasingBy n xs → IsHalved n t xs i →
      (i < length xs → (t == n (get_or xs i d)) ≡ false) → (k : ℕ) → k < length xs →
      (t == n (get_or xs k d)) ≡ false
  none_has xs i d rising half other k within =
      elim (cases_lt k i) [
        | inl h ↦ none_before xs i half k d h
        | inr h ↦
            let inside : i < length xs = omega (arith, h, within) in
            let here = n (get_or xs i d) in
            let low : t ≤ here = ltb-false here t (half.1 i d (omega arith) inside) in
            let high : t < here = apart_higher t here low (other inside) in
            higher_apart t (n (get_or xs k d)) (omega (arith, high, rising i k d h within))
      ]

  -- so there is no first
  pub none_there : (xs : List X) (i : ℕ) → IsNonDecreasingBy n xs → IsHalved n t xs i →
      ((x : X) → slice_get xs i ≡ Some x → (t == n x) ≡ false) →
      None ≡ position (λ y. t == n y) xs
  none_there [] i rising half other = refl
  none_there (x ∷ xs) i rising half other =
      let all = none_has (x ∷ xs) i x rising half
      (λ h. other (get_or (x ∷ xs) i x) (slice_get-get_or (x ∷ xs) i x h)) in
      let end : position_or_len (λ y. t == n y) (x ∷ xs) ≡ length (x ∷ xs) =
      position_or_len_is (λ y. t == n y) (x ∷ xs) (length (x ∷ xs)) x (omega arith) all
      (λ h. absurd (omega (arith, h))) in
      grind (arith, end)

-- the number at a place stays where an element of the same number is set
number_stays : {X : Type 0} (n : X → ℕ) (xs : List X) (i : ℕ) (x z : X) →
    slice_get xs i ≡ Some x → n z ≡ n x → (k : ℕ) (d : X) →
    n (get_or (slice_set xs i z) k d) ≡ n (get_or xs k d)
number_stays n [] i x z at same k d = refl
number_stays n (y ∷ ys) zero x z at same zero d =
    let is : y ≡ x = cc in same ∙ sym (ap n is)
number_stays n (y ∷ ys) zero x z at same (suc k) d = refl
number_stays n (y ∷ ys) (suc i) x z at same zero d = refl
number_stays n (y ∷ ys) (suc i) x z at same (suc k) d = number_stays n ys i x z at same k d

-- a list has as many where one is set
length_stays : {X : Type 0} (xs : List X) (i : ℕ) (z : X) →
    length (slice_set xs i z) ≡ length xs
length_stays [] i z = refl
length_stays (y ∷ ys) zero z = refl
length_stays (y ∷ ys) (suc i) z = ap suc (length_stays ys i z)

-- so numbers rise as before
pub rising_set : {X : Type 0} (n : X → ℕ) (xs : List X) (i : ℕ) (x z : X) →
    IsNonDecreasingBy n xs → slice_get xs i ≡ Some x → n z ≡ n x →
    IsNonDecreasingBy n (slice_set xs i z)
rising_set n xs i x z rising at same j k d le within =
    rw (number_stays n xs i x z at same j d, number_stays n xs i x z at same k d)
    (rising j k d le (subst (λ m. k < m) (length_stays xs i z) within))
