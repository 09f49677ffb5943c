-- A loop that shows each item of a list to a test in turn, and takes out those that do not pass.
use Rattle.std.proofs.Common.{◌≡◌, ℕ, zero, suc, ◌+◌, Bool, true, false, List, [], ◌∷◌, ◌++◌, take}
use Rattle.std.proofs.Common.{drop, Some, None, slice_get, refl, sym, ap, subst, arith}
use mathlib.Core.Bool.{false≢true}
use Rattle.std.specs.{Option.{is_some, unwrap_or}, List.{remove, Retain.IsFiltered}}

module _ {X : Type 0} where
  -- no item is where a list has one
  no_item : (x : X) → Some x ≡ None → ⊥
  no_item x e = false≢true (sym (ap is_some e))

  -- what is left of a list from an item on
  drop_at : (xs : List X) (i : ℕ) (x : X) → slice_get xs i ≡ Some x
      → drop i xs ≡ x ∷ drop (suc i) xs
  drop_at [] i x e = absurd (no_item x (sym e))
  drop_at (y ∷ xs) zero x e = ap (λ o. unwrap_or o y ∷ xs) e
  drop_at (y ∷ xs) (suc i) x e = drop_at xs i x e

  -- what a list has up to an item and with it
  take_at : (xs : List X) (i : ℕ) (x : X) (zs : List X) → slice_get xs i ≡ Some x
      → take i xs ++ x ∷ zs ≡ take (suc i) xs ++ zs
  take_at [] i x zs e = absurd (no_item x (sym e))
  take_at (y ∷ xs) zero x zs e = ap (λ o. unwrap_or o y ∷ zs) (sym e)
  take_at (y ∷ xs) (suc i) x zs e = ap (λ l. y ∷ l) (take_at xs i x zs e)

  -- an item taken out leaves those before it
  take_remove : (xs : List X) (i : ℕ) → take i (remove xs i) ≡ take i xs
  take_remove [] zero = refl
  take_remove [] (suc i) = refl
  take_remove (y ∷ xs) zero = refl
  take_remove (y ∷ xs) (suc i) = ap (λ l. y ∷ l) (take_remove xs i)

  -- and those behind it
  drop_remove : (xs : List X) (i : ℕ) → drop i (remove xs i) ≡ drop (suc i) xs
  drop_remove [] zero = refl
  drop_remove [] (suc i) = refl
  drop_remove (y ∷ xs) zero = refl
  drop_remove (y ∷ xs) (suc i) = drop_remove xs i

  -- from its end on nothing is left of a list, and up to there all
  ended : (xs : List X) (i : ℕ) → slice_get xs i ≡ None
      → record { rest : drop i xs ≡ []; all : take i xs ++ [] ≡ xs }
  ended [] zero e = record { rest = refl; all = refl }
  ended [] (suc i) e = record { rest = refl; all = refl }
  ended (y ∷ xs) zero e = absurd (no_item y e)
  ended (y ∷ xs) (suc i) e =
      let rest = ended xs i e in record { rest = rest.rest; all = ap (λ l. y ∷ l) rest.all }

module _ {P X : Type 0} (R : P → X → Bool → P → Type 0) where
  -- if the test keeps zs of what is left, it keeps those before and zs of the whole
  pub record Retaining (p : P) (old : List X) (q : P) (now : List X) (i : ℕ) : Type 0 where
    pub rest : (zs : List X) → IsFiltered R q (drop i now) zs
        → IsFiltered R p old (take i now ++ zs)

  -- at first all is left
  pub starts : (p : P) (old : List X) → Retaining p old p old 0
  starts p old = record { rest = λ zs h. h }

  -- an item that passes stays
  pub passes : (p : P) (old : List X) (q t : P) (now : List X) (i : ℕ) (x : X)
      → Retaining p old q now i → slice_get now i ≡ Some x → R q x true t
      → Retaining p old t now (i + 1)
  passes p old q t now i x so at r =
      let more : suc i ≡ i + 1 = omega arith in
      subst (λ j. Retaining p old t now j) more (record {
        rest = λ zs h.
            subst (λ l. IsFiltered R p old l) (take_at now i x zs at)
            (so.rest (x ∷ zs)
            (subst (λ l. IsFiltered R q l (x ∷ zs)) (sym (drop_at now i x at))
            (true ∷ h.0, h.1, ap suc h.2, (t, r, h.3), ap (λ l. x ∷ l) h.4)));
      })

  -- one that does not is taken out
  pub fails : (p : P) (old : List X) (q t : P) (now : List X) (i : ℕ) (x : X)
      → Retaining p old q now i → slice_get now i ≡ Some x → R q x false t
      → Retaining p old t (remove now i) i
  fails p old q t now i x so at r = record {
    rest = λ zs h.
        subst (λ l. IsFiltered R p old (l ++ zs)) (sym (take_remove now i))
        (so.rest zs
        (subst (λ l. IsFiltered R q l zs) (sym (drop_at now i x at))
        (failed zs (subst (λ l. IsFiltered R t l zs) (drop_remove now i) h))));
  }
    where
      failed : (zs : List X) → IsFiltered R t (drop (suc i) now) zs
          → IsFiltered R q (x ∷ drop (suc i) now) zs
      failed zs h = (false ∷ h.0, h.1, ap suc h.2, (t, r, h.3), h.4)

  -- at the end nothing is left
  pub ends : (p : P) (old : List X) (q : P) (now : List X) (i : ℕ) → Retaining p old q now i
      → slice_get now i ≡ None → IsFiltered R p old now
  ends p old q now i so at =
      let end = ended now i at in
      subst (λ l. IsFiltered R p old l) end.all
      (so.rest [] (subst (λ l. IsFiltered R q l []) (sym end.rest) ([], q, refl, refl, refl)))
