-- Sums along lists that change.
use Rattle.std.proofs.Common.{◌≡◌, ◌+◌, ◌≤◌, ℕ, Bool, true, false, List, [], ◌∷◌, filter, map, take}
use Rattle.std.{proofs.Common.{drop, refl, ap, arith}, specs.Prelude.{None, Option, Some}}
use Rattle.std.{specs.Prelude.{if◌then◌else◌, position}, proofs.lemmas.List.take-append-drop}
use Rattle.do_machine.specs.Lists.{change_first, inserted, put_at}
use Rattle.do_facts.{specs.Net.total, proofs.Notes.total-append}

-- 1 where a test passes
abbrev pub number_if : Bool → ℕ
number_if b = if b then 1 else 0

module _ {X : Type 0} (f : X → ℕ) where
  -- where each number is at most another
  pub total_le : (g : X → ℕ) → ((x : X) → f x ≤ g x) → (xs : List X) → total f xs ≤ total g xs
  total_le g h [] = omega arith
  total_le g h (x ∷ xs) = omega (arith, h x, total_le g h xs)

  -- with one more at some place
  total_put : (x : X) (xs : List X) (at : Option ℕ) → total f (put_at x xs at) ≡ f x + total f xs
  total_put x xs None = omega (arith, total-append f xs (x ∷ []))
  total_put x xs (Some k) =
      omega (
        arith,
        total-append f (take k xs) (x ∷ drop k xs),
        total-append f (take k xs) (drop k xs),
        ap (total f) (take-append-drop k xs),
      )

  -- with one more inserted
  pub total_inserted : (before : X → X → Bool) (x : X) (xs : List X) →
      total f (inserted before x xs) ≡ f x + total f xs
  total_inserted before x xs = total_put x xs (position (λ y. before x y) xs)

  -- without some
  pub filtered_le : (test : X → Bool) (xs : List X) → total f (filter test xs) ≤ total f xs
  filtered_le test [] = omega arith
  filtered_le test (x ∷ xs) = grind (arith, filtered_le test xs)

  -- without some that count for nothing
  pub filtered_same : (test : X → Bool) → ((x : X) → test x ≡ false → f x ≡ 0) → (xs : List X) →
      total f (filter test xs) ≡ total f xs
  filtered_same test none [] = refl
  filtered_same test none (x ∷ xs) = grind (arith, none x, filtered_same test none xs)

  -- with the first that passes changed to what counts no more
  pub changed_le : (test : X → Bool) (g : X → X) → ((x : X) → f (g x) ≤ f x) → (xs : List X) →
      total f (change_first test g xs) ≤ total f xs
  changed_le test g less [] = omega arith
  changed_le test g less (x ∷ xs) = grind (arith, less x, changed_le test g less xs)

  -- or to what counts as much
  pub changed_same : (test : X → Bool) (g : X → X) →
      ((x : X) → test x ≡ true → f (g x) ≡ f x) → (xs : List X) →
      total f (change_first test g xs) ≡ total f xs
  changed_same test g same [] = refl
  changed_same test g same (x ∷ xs) = grind (arith, same x, changed_same test g same xs)

  -- with each changed to what counts no more
  pub mapped_le : (g : X → X) → ((x : X) → f (g x) ≤ f x) → (xs : List X) →
      total f (map g xs) ≤ total f xs
  mapped_le g less [] = omega arith
  mapped_le g less (x ∷ xs) = omega (arith, less x, mapped_le g less xs)

  -- or to what counts as much
  pub mapped_same : (g : X → X) → ((x : X) → f (g x) ≡ f x) → (xs : List X) →
      total f (map g xs) ≡ total f xs
  mapped_same g same [] = refl
  mapped_same g same (x ∷ xs) = omega (arith, same x, mapped_same g same xs)
