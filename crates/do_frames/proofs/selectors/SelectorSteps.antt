-- The steps of reading selectors.
use Rattle.std.proofs.Common.{◌≡◌, ℕ, zero, suc, ◌-◌, ◌<◌, true, List, ◌∷◌, take, Ok, refl, subst}
use Rattle.std.proofs.Common.{arith}
use Rattle.do_frames.specs.Selectors.{colons_after, follows_selector, later_at}

module _ (seen b : ℕ) (after : List ℕ) where
  -- where it may, and the others are read
  pub later_ok : (left : ℕ) (rest : List ℕ) → 0 < left
      → follows_selector (left - 1) seen b ≡ true
      → later_at (left - 1) (colons_after seen b) after ≡ Ok (take (left - 1) after, rest)
      → later_at left seen (b ∷ after) ≡ Ok (take left (b ∷ after), rest)
  later_ok zero rest lt e read = absurd (omega arith)
  later_ok (suc left) rest lt e read =
      let less : suc left - 1 ≡ left = omega arith in
      let f : follows_selector left seen b ≡ true =
      subst (λ (n : ℕ). follows_selector n seen b ≡ true) less e in
      let r : later_at left (colons_after seen b) after ≡ Ok (take left after, rest) =
      subst (λ (n : ℕ). later_at n (colons_after seen b) after ≡ Ok (take n after, rest)) less
      read in
      rw (f, r) refl
