-- What a key's row, or the gap for it, says of a look-up and of a change.
use Rattle.std.proofs.Common.{◌≡◌, ℕ, zero, suc, ◌<◌, ◌≤◌, ◌&&◌, Bool, true, false, not, cond, T}
use Rattle.std.proofs.Common.{List, [], ◌∷◌, length, get_or, Some, None, slice_get, refl, sym, ap}
use Rattle.std.{proofs.Common.{◌+◌, ◌∙◌, subst, arith, IsSome}, specs.Option.is_some}
use Rattle.std.proofs.lemmas.Option.{get_or_from_slice_get}
use Rattle.std.specs.{List.{insert, remove}, Ordering.{is_eq, is_lt}, Cmp.IsTotalOrder}
use Rattle.std.specs.FinMap.{find, put, is_sorted, Entries.{below_all, length-put}}
use Rattle.std.specs.declared.cmp.Ordering.{Ordering, TheVariants.{Less, Equal, Greater}}
use Rattle.do_sorted.specs.{Places.{IsRowOf, IsGapFor}, Rows.{without, first_from}}

-- of two tests that hold together, the first holds
pub first : (a b : Bool) → T (a && b) → T a
first true b p = tt
first false b p = p

-- and so does the second
pub second : (a b : Bool) → T (a && b) → T b
second true b p = p
second false b p = absurd p

-- two tests that hold, hold together
pub both : (a b : Bool) → T a → T b → T (a && b)
both true b p q = q
both false b p q = p

-- what is tested to be less is less
pub less : (o : Ordering) → T (is_lt o) → o ≡ Less
less Less p = refl
less Equal p = absurd p
less Greater p = absurd p

module _ {K V : Type 0} {R : K → K → Ordering} (o : IsTotalOrder R) where
  -- a place stands within the rows
  pub row_within : (k : K) (es : List (K × V)) (i : ℕ) → IsRowOf R k es i → i < length es
  row_within k [] i h = absurd h
  row_within k (e ∷ es) zero h = omega arith
  row_within k (e ∷ es) (suc i) h = omega (arith, row_within k es i h.1)

  -- a gap stands within the rows or at their end
  pub gap_within : (k : K) (es : List (K × V)) (i : ℕ) → IsGapFor R k es i → i ≤ length es
  gap_within k [] zero h = omega arith
  gap_within k [] (suc i) h = absurd h
  gap_within k (e ∷ es) zero h = omega arith
  gap_within k (e ∷ es) (suc i) h = omega (arith, gap_within k es i h.1)

  -- the row's value is what a look-up gives
  pub find_row : (k : K) (es : List (K × V)) (i : ℕ) (d : K × V) → IsRowOf R k es i
      → find R k es ≡ Some (get_or es i d).1
  find_row k [] i d h = absurd h
  find_row k (e ∷ es) zero d h = ap (λ r. cond (is_eq r) (Some e.1) (find R k es)) h
  find_row k (e ∷ es) (suc i) d h = ap (λ r. cond (is_eq r) (Some e.1) (find R k es)) h.0
      ∙ find_row k es i d h.1

  -- so is the value of the row that is read there
  pub find_here : (k : K) (es : List (K × V)) (i : ℕ) (e : K × V) → IsRowOf R k es i
      → slice_get es i ≡ Some e → find R k es ≡ Some e.1
  find_here k es i e h is =
      find_row k es i e h ∙ ap (λ x. Some x.1) (get_or_from_slice_get es i e e is)

  -- a key that has a row is found
  pub row_there : (k : K) (es : List (K × V)) (i : ℕ) → IsRowOf R k es i → IsSome (find R k es)
  row_there k [] i h = absurd h
  row_there k (e ∷ es) zero h = ap (λ r. is_some (cond (is_eq r) (Some e.1) (find R k es))) h
  row_there k (e ∷ es) (suc i) h =
      ap (λ r. is_some (cond (is_eq r) (Some e.1) (find R k es))) h.0 ∙ row_there k es i h.1

  -- a key below all rows is not found, and no row of it can be taken out
  pub find_below : (k : K) (es : List (K × V)) → T (below_all R k es) → find R k es ≡ None
  find_below k [] h = refl
  find_below k (e ∷ es) h = ap (λ r. cond (is_eq r) (Some e.1) (find R k es)) (less _ (first _ _ h))
      ∙ find_below k es (second _ _ h)

  -- a key below all rows takes none of them out
  without_below : (k : K) (es : List (K × V)) → T (below_all R k es) → without R k es ≡ es
  without_below k [] h = refl
  without_below k (e ∷ es) h =
      ap (λ r. cond (not (is_eq r)) (e ∷ without R k es) (without R k es)) (less _ (first _ _ h))
      ∙ ap (λ rest. e ∷ rest) (without_below k es (second _ _ h))

  -- what is below the first row is below all
  pub below_first : (k : K) (e : K × V) (es : List (K × V)) → R k e.0 ≡ Less
      → T (below_all R e.0 es) → T (below_all R k es)
  below_first k e [] p h = tt
  below_first k e (f ∷ es) p h =
      both _ _ (subst (λ r. T (is_lt r)) (sym (o.trans k e.0 f.0 p (less _ (first _ _ h)))) tt)
      (below_first k e es p (second _ _ h))

  -- what ties with the first row is below the others
  below_tied : (k : K) (e : K × V) (es : List (K × V)) → R k e.0 ≡ Equal → T (below_all R e.0 es)
      → T (below_all R k es)
  below_tied k e [] p h = tt
  below_tied k e (f ∷ es) p h =
      both _ _ (subst (λ r. T (is_lt r)) (sym (o.congr k e.0 f.0 p)) (first _ _ h))
      (below_tied k e es p (second _ _ h))

  -- where there is a gap for a key, it is not found
  pub find_gap : (k : K) (es : List (K × V)) (i : ℕ) → T (is_sorted R es) → IsGapFor R k es i
      → find R k es ≡ None
  find_gap k [] i s h = refl
  find_gap k (e ∷ es) zero s h = ap (λ r. cond (is_eq r) (Some e.1) (find R k es)) h
      ∙ find_below k es (below_first k e es h (first _ _ s))
  find_gap k (e ∷ es) (suc i) s h = ap (λ r. cond (is_eq r) (Some e.1) (find R k es)) h.0
      ∙ find_gap k es i (second _ _ s) h.1

  -- and taking it out changes nothing
  pub without_gap : (k : K) (es : List (K × V)) (i : ℕ) → T (is_sorted R es) → IsGapFor R k es i
      → without R k es ≡ es
  without_gap k [] i s h = refl
  without_gap k (e ∷ es) zero s h =
      ap (λ r. cond (not (is_eq r)) (e ∷ without R k es) (without R k es)) h
      ∙ ap (λ rest. e ∷ rest) (without_below k es (below_first k e es h (first _ _ s)))
  without_gap k (e ∷ es) (suc i) s h =
      ap (λ r. cond (not (is_eq r)) (e ∷ without R k es) (without R k es)) h.0
      ∙ ap (λ rest. e ∷ rest) (without_gap k es i (second _ _ s) h.1)

  -- a value put at a key that is there leaves as many rows
  pub length-put_there : (k : K) (v : V) (es : List (K × V)) → T (is_sorted R es)
      → IsSome (find R k es) → length (put R k v es) ≡ length es
  length-put_there k v es s there =
      length-put R o k v es s ∙ ap (λ b. cond b (length es) (length es + 1)) there

  -- to insert a row in the gap is to put it
  pub put_gap : (k : K) (v : V) (es : List (K × V)) (i : ℕ) → IsGapFor R k es i
      → put R k v es ≡ insert es i (k, v)
  put_gap k v [] zero h = refl
  put_gap k v [] (suc i) h = absurd h
  put_gap k v (e ∷ es) zero h = rw h refl
  put_gap k v (e ∷ es) (suc i) h = rw h.0 (ap (λ rest. e ∷ rest) (put_gap k v es i h.1))

  -- to remove the row is to keep all other keys
  pub without_row : (k : K) (es : List (K × V)) (i : ℕ) → T (is_sorted R es) → IsRowOf R k es i
      → without R k es ≡ remove es i
  without_row k [] i s h = absurd h
  without_row k (e ∷ es) zero s h =
      ap (λ r. cond (not (is_eq r)) (e ∷ without R k es) (without R k es)) h
      ∙ without_below k es (below_tied k e es h (first _ _ s))
  without_row k (e ∷ es) (suc i) s h =
      ap (λ r. cond (not (is_eq r)) (e ∷ without R k es) (without R k es)) h.0
      ∙ ap (λ rest. e ∷ rest) (without_row k es i (second _ _ s) h.1)

  -- the first row from a key on is the key's row, or the one behind the gap
  pub first_from_row : (k : K) (es : List (K × V)) (i : ℕ) → IsRowOf R k es i
      → first_from R k es ≡ slice_get es i
  first_from_row k [] i h = absurd h
  first_from_row k (e ∷ es) zero h = rw (o.antisymm e.0 k, h) refl
  first_from_row k (e ∷ es) (suc i) h = rw (o.antisymm e.0 k, h.0) (first_from_row k es i h.1)

  -- where there is a gap for a key, the first row from it on is the one behind the gap
  pub first_from_gap : (k : K) (es : List (K × V)) (i : ℕ) → IsGapFor R k es i
      → first_from R k es ≡ slice_get es i
  first_from_gap k [] i h = refl
  first_from_gap k (e ∷ es) zero h = rw (o.antisymm e.0 k, h) refl
  first_from_gap k (e ∷ es) (suc i) h = rw (o.antisymm e.0 k, h.0) (first_from_gap k es i h.1)
