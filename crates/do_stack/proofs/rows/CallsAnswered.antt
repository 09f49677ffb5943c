-- The late call that is answered is the one whose row is found, and taken out.
use Rattle.std.proofs.Common.{◌≡◌, ℕ, Bool, true, false, cond, not, ◌&&◌, ◌||◌, ◌==◌, T, List, []}
use Rattle.std.proofs.Common.{◌∷◌, map, Some, refl, sym, ap, ◌∙◌, subst}
use Rattle.std.specs.{Bool.beq, List.list_any, Ordering.{nat_cmp, eq_by_cmp}}
use Rattle.std.specs.FinMap.{find, is_sorted, Entries.below_all}
use Rattle.do_sorted.{specs.Rows.without, proofs.RowOrGap.{first, second}}
use Rattle.do_behave.specs.declared.invocation.Waited.{Waited}
use Rattle.do_machine.specs.declared.node.LateCall.{LateCall}
use Rattle.do_machine.specs.take.Awaiting.{AnsweredCall, is_answered, is_for_root, late_answered}
use Rattle.do_stack.specs.LateCalls.{call_of, answers}
use Rattle.do_stack.proofs.rows.NumbersCompared.{are_equal, first_false, is_below, no_tie}
use Rattle.do_stack.proofs.rows.NumbersCompared.{second_false, tie_is, unequal}
use Rattle.do_stack.proofs.rows.RisingRows.{LateRows, without_above}

module _ (k : AnsweredCall) where
  -- an answer is to this late call
  abbrev to_call : LateCall → Bool
  to_call c = is_answered k c.peer c.number c.what

  -- an answer is to none of the calls of higher numbers
  none_above : (rows : LateRows) → T (below_all nat_cmp k.number rows)
      → list_any to_call (map call_of rows) ≡ false
  none_above [] h = refl
  none_above (row ∷ rows) h =
      ap (λ b. (b && (row.1.0 == k.peer) && beq (is_for_root row.1.1) k.root)
      || list_any to_call (map call_of rows))
      (unequal k.number row.0 (is_below k.number row.0 (first _ _ h)))
      ∙ none_above rows (second _ _ h)

  -- where an answer is to no call, all stay late
  pub none_answered : (calls : List LateCall) → list_any to_call calls ≡ false
      → late_answered k calls ≡ calls
  none_answered [] h = refl
  none_answered (c ∷ calls) h =
      ap (λ b. cond (not b) (c ∷ late_answered k calls) (late_answered k calls)) (first_false _ _ h)
      ∙ ap (λ rest. c ∷ rest) (none_answered calls (second_false _ _ h))

  -- an answer to the call of this row is to no other, whose numbers are higher
  found_here : (row : ℕ × (ℕ × Waited)) (rows : LateRows) → row.0 ≡ k.number
      → T (below_all nat_cmp row.0 rows)
      → list_any to_call (map call_of (row ∷ rows)) ≡ answers k (Some row.1)
  found_here row rows same h =
      ap (λ b. (b && (row.1.0 == k.peer) && beq (is_for_root row.1.1) k.root)
      || list_any to_call (map call_of rows)) (are_equal row.0 k.number same)
      ∙ ap (λ b. answers k (Some row.1) || b)
      (none_above rows (subst (λ m. T (below_all nat_cmp m rows)) same h))
      ∙ or_false (answers k (Some row.1))
    where
      -- a fact or nothing is the fact
      or_false : (b : Bool) → (b || false) ≡ b
      or_false true = refl
      or_false false = refl

  -- an answer to another call than this row's is to one of the others
  found_later : (row : ℕ × (ℕ × Waited)) (rows : LateRows) → (row.0 == k.number) ≡ false
      → list_any to_call (map call_of (row ∷ rows)) ≡ list_any to_call (map call_of rows)
  found_later row rows apart =
      ap (λ b. (b && (row.1.0 == k.peer) && beq (is_for_root row.1.1) k.root)
      || list_any to_call (map call_of rows)) apart

  -- whether an answer is to a late call is seen at what is kept under its number
  found_one : (row : ℕ × (ℕ × Waited)) (rows : LateRows) → T (below_all nat_cmp row.0 rows)
      → list_any to_call (map call_of rows) ≡ answers k (find nat_cmp k.number rows)
      → (b : Bool) → eq_by_cmp nat_cmp k.number row.0 ≡ b
      → list_any to_call (map call_of (row ∷ rows))
      ≡ answers k (cond b (Some row.1) (find nat_cmp k.number rows))
  found_one row rows h rest true is = found_here row rows (tie_is k.number row.0 is) h
  found_one row rows h rest false is =
      found_later row rows (no_tie k.number row.0 is) ∙ rest

  -- so it is for all of the rows
  pub found_is : (rows : LateRows) → T (is_sorted nat_cmp rows)
      → list_any to_call (map call_of rows) ≡ answers k (find nat_cmp k.number rows)
  found_is [] s = refl
  found_is (row ∷ rows) s =
      found_one row rows (first _ _ s) (found_is rows (second _ _ s))
      (eq_by_cmp nat_cmp k.number row.0) refl

  -- the call of this row is answered, and no other
  removed_here : (row : ℕ × (ℕ × Waited)) (rows : LateRows) → row.0 ≡ k.number
      → T (below_all nat_cmp row.0 rows) → answers k (Some row.1) ≡ true
      → late_answered k (map call_of (row ∷ rows)) ≡ map call_of rows
  removed_here row rows same h found =
      ap (λ b. cond (not (b && (row.1.0 == k.peer) && beq (is_for_root row.1.1) k.root))
      (call_of row ∷ late_answered k (map call_of rows)) (late_answered k (map call_of rows)))
      (are_equal row.0 k.number same)
      ∙ ap (λ b. cond (not b) (call_of row ∷ late_answered k (map call_of rows))
      (late_answered k (map call_of rows))) found
      ∙ none_answered (map call_of rows)
      (none_above rows (subst (λ m. T (below_all nat_cmp m rows)) same h))

  -- the call of this row is not answered
  removed_later : (row : ℕ × (ℕ × Waited)) (rows : LateRows) → (row.0 == k.number) ≡ false
      → late_answered k (map call_of (row ∷ rows))
      ≡ call_of row ∷ late_answered k (map call_of rows)
  removed_later row rows apart =
      ap (λ b. cond (not (b && (row.1.0 == k.peer) && beq (is_for_root row.1.1) k.root))
      (call_of row ∷ late_answered k (map call_of rows)) (late_answered k (map call_of rows))) apart

  -- the call that is answered is the one whose row is taken out
  removed_one : (row : ℕ × (ℕ × Waited)) (rows : LateRows) → T (below_all nat_cmp row.0 rows)
      → list_any to_call (map call_of (row ∷ rows)) ≡ true
      → (list_any to_call (map call_of rows) ≡ true
      → late_answered k (map call_of rows) ≡ map call_of (without nat_cmp k.number rows))
      → (b : Bool) → eq_by_cmp nat_cmp k.number row.0 ≡ b
      → late_answered k (map call_of (row ∷ rows))
      ≡ map call_of (cond (not b) (row ∷ without nat_cmp k.number rows)
      (without nat_cmp k.number rows))
  removed_one row rows h found rest true is =
      let same = tie_is k.number row.0 is in
      removed_here row rows same h (sym (found_here row rows same h) ∙ found)
      ∙ ap (map call_of) (sym (without_above k.number rows
      (subst (λ m. T (below_all nat_cmp m rows)) same h)))
  removed_one row rows h found rest false is =
      let apart = no_tie k.number row.0 is in
      removed_later row rows apart
      ∙ ap (λ calls. call_of row ∷ calls) (rest (sym (found_later row rows apart) ∙ found))

  -- so it is for all of the rows
  pub removed_is : (rows : LateRows) → T (is_sorted nat_cmp rows)
      → list_any to_call (map call_of rows) ≡ true
      → late_answered k (map call_of rows) ≡ map call_of (without nat_cmp k.number rows)
  removed_is [] s found = refl
  removed_is (row ∷ rows) s found =
      removed_one row rows (first _ _ s) found (removed_is rows (second _ _ s))
      (eq_by_cmp nat_cmp k.number row.0) refl
