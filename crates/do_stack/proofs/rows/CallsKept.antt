-- To put the row of a late call is to keep the call.
use Rattle.std.proofs.Common.{◌≡◌, ℕ, ◌<◌, cond, not, T, [], ◌∷◌, map, refl, sym, ap, ◌∙◌, subst}
use Rattle.std.specs.{Ordering.nat_cmp, FinMap.{put, is_sorted, Entries.{below_all, by_order}}}
use Rattle.std.specs.declared.cmp.Ordering.{Ordering, TheVariants.{Less, Equal, Greater}}
use Rattle.do_behave.specs.declared.invocation.Waited.{Waited}
use Rattle.do_machine.specs.{Lists.inserted, ends.TimeOut.late_lt}
use Rattle.do_sorted.proofs.RowOrGap.{both, first, second}
use Rattle.do_stack.specs.LateCalls.{call_of, others, kept}
use Rattle.do_stack.proofs.rows.NumbersCompared.{are_equal, below_is, equal_is, greater_is}
use Rattle.do_stack.proofs.rows.NumbersCompared.{is_before, is_below, less_is, lower_unequal}
use Rattle.do_stack.proofs.rows.{NumbersCompared.{not_before, unequal}, Inserted.inserted_first}
use Rattle.do_stack.proofs.rows.{Inserted.inserted_later, RisingRows.{LateRows, below_lower}}

module _ (n : ℕ) where
  -- none of the calls of higher numbers has this one
  others_above : (rows : LateRows) → T (below_all nat_cmp n rows)
      → others n (map call_of rows) ≡ map call_of rows
  others_above [] h = refl
  others_above (row ∷ rows) h =
      ap (λ b. cond (not b) (call_of row ∷ others n (map call_of rows))
      (others n (map call_of rows))) (unequal n row.0 (is_below n row.0 (first _ _ h)))
      ∙ ap (λ calls. call_of row ∷ calls) (others_above rows (second _ _ h))

  module _ (v : ℕ × Waited) where
    -- a call goes before those of higher numbers
    put_above : (rows : LateRows) → T (below_all nat_cmp n rows)
        → inserted late_lt (call_of (n, v)) (map call_of rows) ≡ call_of (n, v) ∷ map call_of rows
    put_above [] h = refl
    put_above (row ∷ rows) h =
        inserted_first late_lt (call_of (n, v)) (call_of row) (map call_of rows)
        (is_before n row.0 (is_below n row.0 (first _ _ h)))

    -- a call goes before those of higher numbers, of which none is replaced
    kept_above : (rows : LateRows) → T (below_all nat_cmp n rows)
        → kept (call_of (n, v)) (map call_of rows) ≡ call_of (n, v) ∷ map call_of rows
    kept_above rows h =
        ap (inserted late_lt (call_of (n, v))) (others_above rows h) ∙ put_above rows h

    -- a call goes behind one of a lower number
    kept_behind : (row : ℕ × (ℕ × Waited)) (rows : LateRows) → row.0 < n
        → kept (call_of (n, v)) (map call_of (row ∷ rows))
        ≡ call_of row ∷ kept (call_of (n, v)) (map call_of rows)
    kept_behind row rows lower =
        ap (λ b. inserted late_lt (call_of (n, v))
        (cond (not b) (call_of row ∷ others n (map call_of rows)) (others n (map call_of rows))))
        (lower_unequal row.0 n lower)
        ∙ inserted_later late_lt (call_of (n, v)) (call_of row) (others n (map call_of rows))
        (not_before n row.0 lower)

    -- a call goes in place of one of its number
    kept_in_place : (row : ℕ × (ℕ × Waited)) (rows : LateRows) → row.0 ≡ n
        → T (below_all nat_cmp row.0 rows)
        → kept (call_of (n, v)) (map call_of (row ∷ rows)) ≡ call_of (row.0, v) ∷ map call_of rows
    kept_in_place row rows same h =
        ap (λ b. inserted late_lt (call_of (n, v))
        (cond (not b) (call_of row ∷ others n (map call_of rows)) (others n (map call_of rows))))
        (are_equal row.0 n same)
        ∙ kept_above rows (subst (λ m. T (below_all nat_cmp m rows)) same h)
        ∙ ap (λ m. call_of (m, v) ∷ map call_of rows) (sym same)

    -- where a call goes among rows by rising number
    put_one : (row : ℕ × (ℕ × Waited)) (rows : LateRows) → T (is_sorted nat_cmp (row ∷ rows))
        → map call_of (put nat_cmp n v rows) ≡ kept (call_of (n, v)) (map call_of rows)
        → (o : Ordering) → nat_cmp n row.0 ≡ o
        → map call_of (by_order o ((n, v) ∷ row ∷ rows) ((row.0, v) ∷ rows)
        (row ∷ put nat_cmp n v rows))
        ≡ kept (call_of (n, v)) (map call_of (row ∷ rows))
    put_one row rows s rest Less is =
        let lower = less_is n row.0 is in
        sym (kept_above (row ∷ rows) (both _ _ (below_is n row.0 lower)
        (below_lower n row.0 rows lower (first _ _ s))))
    put_one row rows s rest Equal is =
        sym (kept_in_place row rows (equal_is n row.0 is) (first _ _ s))
    put_one row rows s rest Greater is =
        ap (λ calls. call_of row ∷ calls) rest ∙ sym (kept_behind row rows (greater_is n row.0 is))

    -- to put a call's row is to keep the call
    pub kept_is : (rows : LateRows) → T (is_sorted nat_cmp rows)
        → map call_of (put nat_cmp n v rows) ≡ kept (call_of (n, v)) (map call_of rows)
    kept_is [] s = refl
    kept_is (row ∷ rows) s =
        put_one row rows s (kept_is rows (second _ _ s)) (nat_cmp n row.0) refl
