-- A loop over types and values side by side.
use Rattle.std.proofs.Common.{◌≡◌, ◌≢◌, ◌<◌, ◌+◌, ℕ, zero, suc, Bool, true, false, List, [], ◌∷◌}
use Rattle.std.proofs.Common.{take, map, length, get_or, refl, sym, subst, arith}
use Rattle.std.specs.Prelude.{◌&&◌}
use Rattle.do_base.specs.declared.values.value.Value.{Value}
use Rattle.do_sig.specs.Fits.{each_takes}

-- both of two that hold
and_both : (a b : Bool) → (a && b) ≡ true → (a ≡ true) × (b ≡ true)
and_both true b e = (refl, e)
and_both false b e = absurd cc

-- two of which the second does not hold
and_false : (a b : Bool) → b ≡ false → (a && b) ≡ false
and_false true b e = e
and_false false b e = refl

module _ {X : Type 0} (f : X → Value → Bool) where
  -- with more of one than of the other not each passes
  pub lengths_differ : (xs : List X) (vs : List Value) → length xs ≢ length vs
      → false ≡ each_takes (map f xs) vs
  lengths_differ [] [] h = absurd (h refl)
  lengths_differ [] (v ∷ vs) h = refl
  lengths_differ (x ∷ xs) [] h = refl
  lengths_differ (x ∷ xs) (v ∷ vs) h =
      sym (and_false (f x v) (each_takes (map f xs) vs)
      (sym (lengths_differ xs vs (λ e. h (rw e refl)))))

  -- where one fails not each passes
  fails_at : (xs : List X) (vs : List Value) (i : ℕ) (d : X) (e : Value) → i < length xs
      → i < length vs → f (get_or xs i d) (get_or vs i e) ≡ false → each_takes (map f xs) vs ≡ false
  fails_at [] vs i d e h k p = absurd (omega arith)
  fails_at (x ∷ xs) [] i d e h k p = absurd (omega arith)
  fails_at (x ∷ xs) (v ∷ vs) zero d e h k p = rw p refl
  fails_at (x ∷ xs) (v ∷ vs) (suc i) d e h k p =
      and_false (f x v) (each_takes (map f xs) vs)
      (fails_at xs vs i d e (omega arith) (omega arith) p)

  -- the same the other way round
  pub one_fails : (xs : List X) (vs : List Value) (i : ℕ) (d : X) (e : Value) → i < length xs
      → i < length vs → f (get_or xs i d) (get_or vs i e) ≡ false → false ≡ each_takes (map f xs) vs
  one_fails xs vs i d e h k p = sym (fails_at xs vs i d e h k p)

  -- with one more that passes each passes
  next : (xs : List X) (vs : List Value) (i : ℕ) (d : X) (e : Value) → i < length xs → i < length vs
      → each_takes (map f (take i xs)) (take i vs) ≡ true → f (get_or xs i d) (get_or vs i e) ≡ true
      → each_takes (map f (take (suc i) xs)) (take (suc i) vs) ≡ true
  next [] vs i d e h k p q = absurd (omega arith)
  next (x ∷ xs) [] i d e h k p q = absurd (omega arith)
  next (x ∷ xs) (v ∷ vs) zero d e h k p q = rw q refl
  next (x ∷ xs) (v ∷ vs) (suc i) d e h k p q =
      let b = and_both (f x v) (each_takes (map f (take i xs)) (take i vs)) p in
      let first = b.0 in
      rw first (next xs vs i d e (omega arith) (omega arith) b.1 q)

  -- the same at the next place
  pub next_fits : (xs : List X) (vs : List Value) (i : ℕ) (d : X) (e : Value) → i < length xs
      → i < length vs → each_takes (map f (take i xs)) (take i vs) ≡ true
      → f (get_or xs i d) (get_or vs i e) ≡ true
      → each_takes (map f (take (i + 1) xs)) (take (i + 1) vs) ≡ true
  next_fits xs vs i d e h k p q = let s : suc i ≡ i + 1 =
      omega arith in subst (λ (n : ℕ). each_takes (map f (take n xs)) (take n vs) ≡ true) s
      (next xs vs i d e h k p q)

pub ruleset pair_steps = (lengths_differ, one_fails, next_fits)
