-- Sorted rows from which some are taken out.
use Rattle.std.proofs.Common.{Bool, ℕ, zero, suc, true, false, T, List, [], ◌∷◌}
use Rattle.std.specs.{List.{items_where_true, remove}, FinMap.{is_sorted, Entries.below_all}}
use Rattle.std.specs.declared.cmp.Ordering.{Ordering}
use Rattle.do_sorted.proofs.RowOrGap.{first, second, both}

module _ {K V : Type 0} (R : K → K → Ordering) where
  -- a key below all rows is below those of them that are kept
  below_all-items_where_true : (k : K) (kept : List Bool) (es : List (K × V)) → T (below_all R k es)
      → T (below_all R k (items_where_true kept es))
  below_all-items_where_true k [] es below = tt
  below_all-items_where_true k (b ∷ kept) [] below = tt
  below_all-items_where_true k (true ∷ kept) (e ∷ es) below =
      both _ _ (first _ _ below) (below_all-items_where_true k kept es (second _ _ below))
  below_all-items_where_true k (false ∷ kept) (e ∷ es) below =
      below_all-items_where_true k kept es (second _ _ below)

  -- the rows of a sorted list that are kept are sorted
  pub is_sorted-items_where_true : (kept : List Bool) (es : List (K × V)) → T (is_sorted R es)
      → T (is_sorted R (items_where_true kept es))
  is_sorted-items_where_true [] es s = tt
  is_sorted-items_where_true (b ∷ kept) [] s = tt
  is_sorted-items_where_true (true ∷ kept) (e ∷ es) s =
      both _ _ (below_all-items_where_true e.0 kept es (first _ _ s))
      (is_sorted-items_where_true kept es (second _ _ s))
  is_sorted-items_where_true (false ∷ kept) (e ∷ es) s =
      is_sorted-items_where_true kept es (second _ _ s)

  -- a key below all rows is below all but one
  below_all-remove : (k : K) (es : List (K × V)) (i : ℕ) → T (below_all R k es)
      → T (below_all R k (remove es i))
  below_all-remove k [] zero below = tt
  below_all-remove k [] (suc i) below = tt
  below_all-remove k (e ∷ es) zero below = second _ _ below
  below_all-remove k (e ∷ es) (suc i) below =
      both _ _ (first _ _ below) (below_all-remove k es i (second _ _ below))

  -- the rows of a sorted list but one are sorted
  pub is_sorted-remove : (es : List (K × V)) (i : ℕ) → T (is_sorted R es)
      → T (is_sorted R (remove es i))
  is_sorted-remove [] zero s = tt
  is_sorted-remove [] (suc i) s = tt
  is_sorted-remove (e ∷ es) zero s = second _ _ s
  is_sorted-remove (e ∷ es) (suc i) s =
      both _ _ (below_all-remove e.0 es i (first _ _ s)) (is_sorted-remove es i (second _ _ s))
