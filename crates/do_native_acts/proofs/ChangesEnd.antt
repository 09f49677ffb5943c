-- Behind the end of either list no slot is written.
use Rattle.std.proofs.Common.{◌≡◌, ℕ, ◌≤◌, min, List as Listed, [], ◌∷◌, drop, length, refl, arith}
use Rattle.std.proofs.Common.{length-drop}
use Rattle.do_base.specs.declared.values.value.Value.{Value}
use Rattle.do_native_acts.specs.Steps.{changes}

-- where one of the lists is empty nothing is written
changes_none : (at : ℕ) (old new : Listed Value) → min (length old) (length new) ≡ 0
    → changes at old new ≡ []
changes_none at [] new e = refl
changes_none at (v ∷ old) [] e = refl
changes_none at (v ∷ old) (w ∷ new) e = absurd (above e)
  where
    above : min (length (v ∷ old)) (length (w ∷ new)) ≡ 0 → ⊥
    above h = omega (arith, h)

-- behind a place past the end of one of them nothing is written
pub changes_end : (at k : ℕ) (old new : Listed Value) → min (length old) (length new) ≤ k
    → changes at (drop k old) (drop k new) ≡ []
changes_end at k old new end =
    changes_none at (drop k old) (drop k new)
    (omega (arith, length-drop k old, length-drop k new, end))
