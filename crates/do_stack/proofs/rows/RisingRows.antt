-- Rows of late calls by rising number.
use Rattle.std.proofs.Common.{◌≡◌, ℕ, ◌<◌, cond, not, T, List, [], ◌∷◌, refl, ap, ◌∙◌, arith}
use Rattle.std.specs.{Ordering.nat_cmp, FinMap.Entries.below_all}
use Rattle.do_sorted.{specs.Rows.without, proofs.RowOrGap.{both, first, second}}
use Rattle.do_behave.specs.declared.invocation.Waited.{Waited}
use Rattle.do_stack.proofs.rows.NumbersCompared.{apart, below_is, is_below}

-- what is kept under each number
abbrev pub LateRows : Type 0
LateRows = List (ℕ × (ℕ × Waited))

-- keys above a number are above a lower one
pub below_lower : (n m : ℕ) (rows : LateRows) → n < m → T (below_all nat_cmp m rows)
    → T (below_all nat_cmp n rows)
below_lower n m [] lower h = tt
below_lower n m (row ∷ rows) lower h =
    both _ _ (below_is n row.0 (less_all n m row.0 lower (is_below m row.0 (first _ _ h))))
    (below_lower n m rows lower (second _ _ h))
  where
    -- a number is below what a higher one is below
    less_all : (a b c : ℕ) → a < b → b < c → a < c
    less_all a b c p q = omega arith

module _ (n : ℕ) where
  -- no key has a number that all keys are above
  pub without_above : (rows : LateRows) → T (below_all nat_cmp n rows)
      → without nat_cmp n rows ≡ rows
  without_above [] h = refl
  without_above (row ∷ rows) h =
      ap (λ b. cond (not b) (row ∷ without nat_cmp n rows) (without nat_cmp n rows))
      (apart n row.0 (is_below n row.0 (first _ _ h)))
      ∙ ap (λ rest. row ∷ rest) (without_above rows (second _ _ h))
