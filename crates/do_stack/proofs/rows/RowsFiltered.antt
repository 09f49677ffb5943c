-- Of rows by rising number those that are kept rise, and are the calls that are kept.
use Rattle.std.proofs.Common.{◌≡◌, ℕ, Bool, true, false, cond, not, ◌==◌, T, [], ◌∷◌, map, filter}
use Rattle.std.proofs.Common.{refl, ap}
use Rattle.std.specs.{Ordering.nat_cmp, FinMap.{is_sorted, Entries.below_all}}
use Rattle.do_behave.specs.declared.invocation.Waited.{Waited}
use Rattle.do_sorted.proofs.RowOrGap.{both, first, second}
use Rattle.do_stack.{specs.LateCalls.call_of, proofs.rows.RisingRows.LateRows}

-- to keep the rows of other peers is to keep the calls to them
pub others_stay : (peer : ℕ) (rows : LateRows)
    → map call_of (filter (λ row. not (row.1.0 == peer)) rows)
    ≡ filter (λ c. not (c.peer == peer)) (map call_of rows)
others_stay peer [] = refl
others_stay peer (row ∷ rows) = one (others_stay peer rows) (not (row.1.0 == peer))
  where
    -- the first row stays where its call does
    one : map call_of (filter (λ row. not (row.1.0 == peer)) rows)
        ≡ filter (λ c. not (c.peer == peer)) (map call_of rows) → (b : Bool)
        → map call_of (cond b (row ∷ filter (λ row. not (row.1.0 == peer)) rows)
        (filter (λ row. not (row.1.0 == peer)) rows))
        ≡ cond b (call_of row ∷ filter (λ c. not (c.peer == peer)) (map call_of rows))
        (filter (λ c. not (c.peer == peer)) (map call_of rows))
    one rest true = ap (λ calls. call_of row ∷ calls) rest
    one rest false = rest

module _ (p : (ℕ × (ℕ × Waited)) → Bool) where
  -- of keys above a number, those that are kept are
  below_kept : (n : ℕ) (rows : LateRows) → T (below_all nat_cmp n rows)
      → T (below_all nat_cmp n (filter p rows))
  below_kept n [] h = tt
  below_kept n (row ∷ rows) h =
      let rest = below_kept n rows (second _ _ h) in
      elim (p row)
      as (λ b. T (below_all nat_cmp n (cond b (row ∷ filter p rows) (filter p rows)))) [
        | true ↦ both _ _ (first _ _ h) rest
        | false ↦ rest
      ]

  -- rows that are kept of sorted ones are sorted
  pub sorted_rows : (rows : LateRows) → T (is_sorted nat_cmp rows)
      → T (is_sorted nat_cmp (filter p rows))
  sorted_rows [] s = tt
  sorted_rows (row ∷ rows) s =
      let rest = sorted_rows rows (second _ _ s) in
      elim (p row) as (λ b. T (is_sorted nat_cmp (cond b (row ∷ filter p rows) (filter p rows)))) [
        | true ↦ both _ _ (below_kept row.0 rows (first _ _ s)) rest
        | false ↦ rest
      ]
