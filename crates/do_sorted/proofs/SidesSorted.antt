-- Sorted rows of two sides and a row between them, and where a key stands among them.
use Rattle.std.proofs.Common.{◌≡◌, ℕ, zero, suc, ◌+◌, T, List, [], ◌∷◌, ◌++◌, length, ap, ◌∙◌}
use Rattle.std.proofs.Common.{subst, sym, refl, arith, Result, Ok, Err, IfOk, IfErr, false, cond}
use Rattle.std.proofs.Common.{Some}
use mathlib.Core.Bool.{false≢true}
use Rattle.std.specs.{Ordering.{is_eq, is_lt, eq_by_cmp, ordering_reverse}, Cmp.IsTotalOrder}
use Rattle.std.specs.FinMap.{find, put, is_sorted, Entries.{by_order, below_all}}
use Rattle.std.specs.declared.cmp.Ordering.{Ordering, TheVariants.{Less, Equal, Greater}}
use Rattle.do_sorted.specs.Places.{IsRowOf, IsGapFor}
use Rattle.do_sorted.proofs.RowOrGap.{first, second, less, both, find_below, below_first}

module _ {K V : Type 0} (R : K → K → Ordering) where
  -- a key below all rows is below those before one
  below_front : (k : K) (xs ys : List (K × V)) → T (below_all R k (xs ++ ys)) → T (below_all R k xs)
  below_front k [] ys h = tt
  below_front k (e ∷ xs) ys h =
      both _ _ (first _ _ h) (below_front k xs ys (second _ _ h))

  -- and below the one between the sides
  below_middle : (k : K) (xs : List (K × V)) (x : K × V) (ys : List (K × V))
      → T (below_all R k (xs ++ x ∷ ys)) → R k x.0 ≡ Less
  below_middle k [] x ys h = less _ (first _ _ h)
  below_middle k (e ∷ xs) x ys h = below_middle k xs x ys (second _ _ h)

  -- the rows before one are sorted
  pub sorted_before : (xs : List (K × V)) (x : K × V) (ys : List (K × V))
      → T (is_sorted R (xs ++ x ∷ ys)) → T (is_sorted R xs)
  sorted_before [] x ys s = tt
  sorted_before (e ∷ xs) x ys s =
      both _ _ (below_front e.0 xs (x ∷ ys) (first _ _ s)) (sorted_before xs x ys (second _ _ s))

  -- and so are those behind it
  pub sorted_behind : (xs : List (K × V)) (x : K × V) (ys : List (K × V))
      → T (is_sorted R (xs ++ x ∷ ys)) → T (is_sorted R ys)
  sorted_behind [] x ys s = second _ _ s
  sorted_behind (e ∷ xs) x ys s = sorted_behind xs x ys (second _ _ s)

  -- a key's row before others stays its row
  pub row_before : (k : K) (xs ys : List (K × V)) (i : ℕ) → IsRowOf R k xs i
      → IsRowOf R k (xs ++ ys) i
  row_before k [] ys i h = absurd h
  row_before k (e ∷ xs) ys zero h = h
  row_before k (e ∷ xs) ys (suc i) h = (h.0, row_before k xs ys i h.1)

  -- the gap for a key below the row between the sides is a gap of the whole
  pub gap_before : (k : K) (xs : List (K × V)) (x : K × V) (ys : List (K × V)) (i : ℕ)
      → R k x.0 ≡ Less → IsGapFor R k xs i → IsGapFor R k (xs ++ x ∷ ys) i
  gap_before k [] x ys zero below h = below
  gap_before k [] x ys (suc i) below h = absurd h
  gap_before k (e ∷ xs) x ys zero below h = h
  gap_before k (e ∷ xs) x ys (suc i) below h = (h.0, gap_before k xs x ys i below h.1)

  -- the same of what a search among the rows before one found
  pub found_before : (k : K) (xs : List (K × V)) (x : K × V) (ys : List (K × V)) (r : Result ℕ ℕ)
      → IfOk r (IsRowOf R k xs) → IfOk r (IsRowOf R k (xs ++ x ∷ ys))
  found_before k xs x ys (Ok i) h = row_before k xs (x ∷ ys) i h
  found_before k xs x ys (Err i) h = tt

  -- and of what it did not find
  pub absent_before : (k : K) (xs : List (K × V)) (x : K × V) (ys : List (K × V)) (r : Result ℕ ℕ)
      → R k x.0 ≡ Less → IfErr r (IsGapFor R k xs) → IfErr r (IsGapFor R k (xs ++ x ∷ ys))
  absent_before k xs x ys (Ok i) below h = tt
  absent_before k xs x ys (Err i) below h = gap_before k xs x ys i below h

  -- each row's key is below a key
  abbrev pub AreBelow : K → List (K × V) → Type 0
  AreBelow k [] = Unit {0}
  AreBelow k (e ∷ es) = (R k e.0 ≡ Greater) × AreBelow k es

  -- rows below a key come before its row among those behind them
  pub row_past : (k : K) (xs ys : List (K × V)) (i j : ℕ) → AreBelow k xs → IsRowOf R k ys j
      → i ≡ length xs + j → IsRowOf R k (xs ++ ys) i
  row_past k [] ys i j below h e =
      let same : j ≡ i = omega arith in
      subst (λ n. IsRowOf R k ys n) same h
  row_past k (f ∷ xs) ys zero j below h e = absurd (omega arith)
  row_past k (f ∷ xs) ys (suc i) j below h e =
      (below.0, row_past k xs ys i j below.1 h (omega arith))

  -- and before the gap for it
  pub gap_past : (k : K) (xs ys : List (K × V)) (i j : ℕ) → AreBelow k xs → IsGapFor R k ys j
      → i ≡ length xs + j → IsGapFor R k (xs ++ ys) i
  gap_past k [] ys i j below h e =
      let same : j ≡ i = omega arith in
      subst (λ n. IsGapFor R k ys n) same h
  gap_past k (f ∷ xs) ys zero j below h e = absurd (omega arith)
  gap_past k (f ∷ xs) ys (suc i) j below h e =
      (below.0, gap_past k xs ys i j below.1 h (omega arith))

  -- it is looked up behind them
  find_past : (k : K) (xs ys : List (K × V)) → AreBelow k xs → find R k (xs ++ ys) ≡ find R k ys
  find_past k [] ys below = refl
  find_past k (e ∷ xs) ys below =
      ap (λ r. cond (is_eq r) (Some e.1) (find R k (xs ++ ys))) below.0
      ∙ find_past k xs ys below.1

  -- and put behind them
  put_past : (k : K) (v : V) (xs ys : List (K × V)) → AreBelow k xs
      → put R k v (xs ++ ys) ≡ xs ++ put R k v ys
  put_past k v [] ys below = refl
  put_past k v (e ∷ xs) ys below =
      ap (λ r. by_order r ((k, v) ∷ e ∷ xs ++ ys) ((e.0, v) ∷ xs ++ ys) (e ∷ put R k v (xs ++ ys)))
      below.0
      ∙ ap (λ rest. e ∷ rest) (put_past k v xs ys below.1)

  -- a value at a key below the row between the sides is put before that row
  pub put_before : (k : K) (v : V) (xs : List (K × V)) (x : K × V) (ys : List (K × V))
      → R k x.0 ≡ Less → put R k v (xs ++ x ∷ ys) ≡ put R k v xs ++ x ∷ ys
  put_before k v [] x ys q =
      ap (λ r. by_order r ((k, v) ∷ x ∷ ys) ((x.0, v) ∷ ys) (x ∷ put R k v ys)) q
  put_before k v (e ∷ xs) x ys q = go (R k e.0) (put_before k v xs x ys q)
    where
      go : (r : Ordering) → put R k v (xs ++ x ∷ ys) ≡ put R k v xs ++ x ∷ ys
          → by_order r ((k, v) ∷ e ∷ xs ++ x ∷ ys) ((e.0, v) ∷ xs ++ x ∷ ys)
          (e ∷ put R k v (xs ++ x ∷ ys))
          ≡ by_order r ((k, v) ∷ e ∷ xs) ((e.0, v) ∷ xs) (e ∷ put R k v xs) ++ x ∷ ys
      go Less rest = refl
      go Equal rest = refl
      go Greater rest = ap (λ l. e ∷ l) rest

module _ {K V : Type 0} {R : K → K → Ordering} (o : IsTotalOrder R) where
  -- a key that is not below the row between the sides is above each row before it
  above_front : (k : K) (e x : K × V) → R e.0 x.0 ≡ Less → is_lt (R k x.0) ≡ false
      → R k e.0 ≡ Greater
  above_front k e x p n = go (R k x.0) refl n
    where
      go : (r : Ordering) → R k x.0 ≡ r → is_lt r ≡ false → R k e.0 ≡ Greater
      go Less q n = absurd (false≢true (sym n))
      go Equal q n = o.congr k x.0 e.0 q ∙ o.antisymm x.0 e.0 ∙ ap ordering_reverse p
      go Greater q n =
          o.antisymm k e.0
          ∙ ap ordering_reverse
          (o.trans e.0 x.0 k p (o.antisymm x.0 k ∙ ap ordering_reverse q))

  -- so all rows before that one have lower keys
  pub rows_below : (k : K) (xs : List (K × V)) (x : K × V) (ys : List (K × V))
      → T (is_sorted R (xs ++ x ∷ ys)) → is_lt (R k x.0) ≡ false → AreBelow R k xs
  rows_below k [] x ys s n = tt
  rows_below k (e ∷ xs) x ys s n = (
    above_front k e x (below_middle R e.0 xs x ys (first _ _ s)) n,
    rows_below k xs x ys (second _ _ s) n,
  )

  -- a key below the row between the sides is looked up before it
  pub find_before : (k : K) (xs : List (K × V)) (x : K × V) (ys : List (K × V))
      → T (is_sorted R (xs ++ x ∷ ys)) → R k x.0 ≡ Less → find R k (xs ++ x ∷ ys) ≡ find R k xs
  find_before k [] x ys s q = ap (λ r. cond (is_eq r) (Some x.1) (find R k ys)) q
      ∙ find_below o k ys (below_first o k x ys q (first _ _ s))
  find_before k (e ∷ xs) x ys s q =
      ap (cond (eq_by_cmp R k e.0) (Some e.1)) (find_before k xs x ys (second _ _ s) q)

  -- a key that ties with it has its value
  pub find_between : (k : K) (xs : List (K × V)) (x : K × V) (ys : List (K × V))
      → T (is_sorted R (xs ++ x ∷ ys)) → R k x.0 ≡ Equal → find R k (xs ++ x ∷ ys) ≡ Some x.1
  find_between k xs x ys s q =
      find_past R k xs (x ∷ ys) (rows_below k xs x ys s (ap is_lt q))
      ∙ ap (λ r. cond (is_eq r) (Some x.1) (find R k ys)) q

  -- and one above it is looked up behind it
  pub find_behind : (k : K) (xs : List (K × V)) (x : K × V) (ys : List (K × V))
      → T (is_sorted R (xs ++ x ∷ ys)) → R k x.0 ≡ Greater → find R k (xs ++ x ∷ ys) ≡ find R k ys
  find_behind k xs x ys s q =
      find_past R k xs (x ∷ ys) (rows_below k xs x ys s (ap is_lt q))
      ∙ ap (λ r. cond (is_eq r) (Some x.1) (find R k ys)) q

  -- a value at a key that ties with the row between the sides is put into that row
  pub put_between : (k : K) (v : V) (xs : List (K × V)) (x : K × V) (ys : List (K × V))
      → T (is_sorted R (xs ++ x ∷ ys)) → R k x.0 ≡ Equal
      → put R k v (xs ++ x ∷ ys) ≡ xs ++ (x.0, v) ∷ ys
  put_between k v xs x ys s q =
      put_past R k v xs (x ∷ ys) (rows_below k xs x ys s (ap is_lt q))
      ∙ ap (λ r. xs ++ by_order r ((k, v) ∷ x ∷ ys) ((x.0, v) ∷ ys) (x ∷ put R k v ys)) q

  -- and one at a key above it behind it
  pub put_behind : (k : K) (v : V) (xs : List (K × V)) (x : K × V) (ys : List (K × V))
      → T (is_sorted R (xs ++ x ∷ ys)) → R k x.0 ≡ Greater
      → put R k v (xs ++ x ∷ ys) ≡ xs ++ x ∷ put R k v ys
  put_behind k v xs x ys s q =
      put_past R k v xs (x ∷ ys) (rows_below k xs x ys s (ap is_lt q))
      ∙ ap (λ r. xs ++ by_order r ((k, v) ∷ x ∷ ys) ((x.0, v) ∷ ys) (x ∷ put R k v ys)) q
