-- Where a key's row stands among rows by rising key, or where it would go.
use Rattle.std.specs.{Prelude.{◌≡◌, ℕ, zero, suc, List, [], ◌∷◌}, declared.cmp.Ordering.Ordering}
use Rattle.std.specs.declared.cmp.Ordering.TheVariants.{Less, Equal, Greater}

module _ {K V : Type 0} (R : K → K → Ordering) (k : K) where
  -- the row at a place has the key, and those before it have lower ones
  abbrev pub IsRowOf : List (K × V) → ℕ → Type 0
  IsRowOf [] i = ⊥
  IsRowOf (e ∷ es) zero = R k e.0 ≡ Equal
  IsRowOf (e ∷ es) (suc i) = (R k e.0 ≡ Greater) × IsRowOf es i

  -- the rows before a place have lower keys, and the one there a higher
  abbrev pub IsGapFor : List (K × V) → ℕ → Type 0
  IsGapFor [] zero = Unit {0}
  IsGapFor (e ∷ es) zero = R k e.0 ≡ Less
  IsGapFor [] (suc i) = ⊥
  IsGapFor (e ∷ es) (suc i) = (R k e.0 ≡ Greater) × IsGapFor es i
