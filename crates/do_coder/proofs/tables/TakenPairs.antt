-- Which classes and serials are left beside the table of recent names.
use Rattle.std.proofs.Common.{◌≡◌, ℕ, suc, ◌-◌, ◌<◌, ◌≤◌, Bool, true, false, eqb, List, [], ◌∷◌}
use Rattle.std.proofs.Common.{length, map, Option, Some, None, refl, sym, ap, ◌∙◌, arith}
use Rattle.std.{specs.{Prelude.{not, nat_le}, List.filter}, proofs.lemmas.Bool.Decides.nat_tests}
use Rattle.do_grammar.specs.BesideHoles.{is_hole, next_beside, some_beside}
use Rattle.do_coder.specs.{declared.recent.pair.Pair.Pair, Recent.{pair, place_in}}
use Rattle.do_coder.specs.Names.{taken_with, taken_whole}
use Rattle.do_grammar.proofs.texts.NextBeside.{next_least, next_near, free_stays}

-- a class is free beside a serial just where their pair doesn't stand in the table
module _ (serial class : ℕ) where
  -- by the first pair of the table
  free_turn : (q : Pair) (table : List Pair)
      → (is_hole (taken_with serial table) class ≡ false
      → place_in (pair serial class) table ≡ None) → (t u : Bool) → eqb q.serial serial ≡ t
      → eqb q.class.0 class ≡ u
      → is_hole (taken_with serial (q ∷ table)) class ≡ false
      → place_in (pair serial class) (q ∷ table) ≡ None
  free_turn q table rec true true e f h =
      let all : is_hole (taken_with serial (q ∷ table)) class ≡ true = rw (e, f) refl in
      absurd cc
  free_turn q table rec true false e f h =
      let rest : is_hole (taken_with serial table) class ≡ false = sym (rw (e, f) refl) ∙ h in
      rw (e, f, rec rest) refl
  free_turn q table rec false u e f h =
      let rest : is_hole (taken_with serial table) class ≡ false = sym (rw e refl) ∙ h in
      rw (e, rec rest) refl

  -- a free class has no pair in the table
  pub free_none : (table : List Pair) → is_hole (taken_with serial table) class ≡ false
      → place_in (pair serial class) table ≡ None
  free_none [] h = refl
  free_none (q ∷ table) h =
      free_turn q table (free_none table) (eqb q.serial serial) (eqb q.class.0 class) refl refl h

  -- by the first pair of the table
  none_turn : (q : Pair) (table : List Pair)
      → (place_in (pair serial class) table ≡ None
      → is_hole (taken_with serial table) class ≡ false) → (t u : Bool) → eqb q.serial serial ≡ t
      → eqb q.class.0 class ≡ u
      → (o : Option ℕ) → place_in (pair serial class) table ≡ o
      → place_in (pair serial class) (q ∷ table) ≡ None
      → is_hole (taken_with serial (q ∷ table)) class ≡ false
  none_turn q table rec true true e f o g h =
      let at : place_in (pair serial class) (q ∷ table) ≡ Some 0 = rw (e, f) refl in
      absurd cc
  none_turn q table rec true false e f None g h = rw (e, f, rec g) refl
  none_turn q table rec true false e f (Some k) g h =
      let at : place_in (pair serial class) (q ∷ table) ≡ Some (suc k) = rw (e, f, g) refl in
      absurd cc
  none_turn q table rec false u e f None g h = rw (e, rec g) refl
  none_turn q table rec false u e f (Some k) g h =
      let at : place_in (pair serial class) (q ∷ table) ≡ Some (suc k) = rw (e, g) refl in
      absurd cc

  -- a class without a pair in the table is free
  pub none_free : (table : List Pair) → place_in (pair serial class) table ≡ None
      → is_hole (taken_with serial table) class ≡ false
  none_free [] h = refl
  none_free (q ∷ table) h =
      none_turn q table (none_free table) (eqb q.serial serial) (eqb q.class.0 class) refl refl
      (place_in (pair serial class) table) refl h

-- ---- holes that pass a test

module _ (t : ℕ → Bool) (n : ℕ) where
  -- by the first hole
  hole_passes : (h : ℕ) (holes : List ℕ)
      → (is_hole (filter t holes) n ≡ false → is_hole holes n ≡ true → t n ≡ false) → (a b : Bool)
      → eqb h n ≡ a → t h ≡ b → is_hole (filter t (h ∷ holes)) n ≡ false
      → is_hole (h ∷ holes) n ≡ true → t n ≡ false
  hole_passes h holes rec true true e f p q =
      let all : is_hole (filter t (h ∷ holes)) n ≡ true = rw (f, e) refl in
      absurd cc
  hole_passes h holes rec true false e f p q =
      let same : h ≡ n = grind (arith, nat_tests) in
      ap t (sym same) ∙ f
  hole_passes h holes rec false true e f p q = rec (sym (rw (f, e) refl) ∙ p) (sym (rw e refl) ∙ q)
  hole_passes h holes rec false false e f p q = rec (sym (rw f refl) ∙ p) (sym (rw e refl) ∙ q)

  -- a hole that is no longer one did not pass
  pub no_hole_passes : (holes : List ℕ) → is_hole (filter t holes) n ≡ false
      → is_hole holes n ≡ true → t n ≡ false
  no_hole_passes [] p q = absurd cc
  no_hole_passes (h ∷ holes) p q =
      hole_passes h holes (no_hole_passes holes) (eqb h n) (t h) refl refl p q

  -- by the first hole, for a number that does not pass
  hole_fails : (h : ℕ) (holes : List ℕ) → t n ≡ false → is_hole (filter t holes) n ≡ false
      → (a b : Bool) → eqb h n ≡ a → t h ≡ b → is_hole (filter t (h ∷ holes)) n ≡ false
  hole_fails h holes p rec true true e f =
      let same : h ≡ n = grind (arith, nat_tests) in
      let other = ap t same in
      absurd cc
  hole_fails h holes p rec false true e f = rw (f, e) rec
  hole_fails h holes p rec a false e f = rw f rec

  -- a number that does not pass is no hole among those that do
  pub no_hole : (holes : List ℕ) → t n ≡ false → is_hole (filter t holes) n ≡ false
  no_hole [] p = refl
  no_hole (h ∷ holes) p = hole_fails h holes p (no_hole holes p) (eqb h n) (t h) refl refl

-- a serial that doesn't stand in the table has no class there
module _ (serial : ℕ) where
  -- by the first pair of the table
  unknown_turn : (q : Pair) (table : List Pair)
      → (is_hole (map (λ (p : Pair). p.serial) table) serial ≡ false → taken_with serial table ≡ [])
      → (t : Bool) → eqb q.serial serial ≡ t
      → is_hole (map (λ (p : Pair). p.serial) (q ∷ table)) serial ≡ false
      → taken_with serial (q ∷ table) ≡ []
  unknown_turn q table rec true e h =
      let all : is_hole (map (λ (p : Pair). p.serial) (q ∷ table)) serial ≡ true = rw e refl in
      absurd cc
  unknown_turn q table rec false e h =
      let rest : is_hole (map (λ (p : Pair). p.serial) table) serial ≡ false = sym (rw e refl)
      ∙ h in
      rw (e, rec rest) refl

  -- so nothing is taken with it
  unknown : (table : List Pair) → is_hole (map (λ (p : Pair). p.serial) table) serial ≡ false
      → taken_with serial table ≡ []
  unknown [] h = refl
  unknown (q ∷ table) h = unknown_turn q table (unknown table) (eqb q.serial serial) refl h

-- what is not false is true
not_false : (b : Bool) → not b ≡ false → b ≡ true
not_false true e = refl
not_false false e = absurd cc

-- what is true is not false
true_not : (b : Bool) → b ≡ true → not b ≡ false
true_not true e = refl
true_not false e = absurd cc

-- a serial that isn't taken whole has a free class
pub class_left : (classes serial : ℕ) (table : List Pair)
    → is_hole (taken_whole classes table) serial ≡ false
    → next_beside (taken_with serial table) 0 ≤ classes - 1
class_left classes serial table h = go (is_hole (map (λ (p : Pair). p.serial) table) serial) refl
  where
    test : ℕ → Bool
    test = λ n. not (some_beside (taken_with n table) 0 (classes - 1))

    le : (b : Bool) → nat_le (next_beside (taken_with serial table) 0) (classes - 1) ≡ b → b ≡ true
        → next_beside (taken_with serial table) 0 ≤ classes - 1
    le b e t = grind (arith, nat_tests)

    go : (t : Bool) → is_hole (map (λ (p : Pair). p.serial) table) serial ≡ t
        → next_beside (taken_with serial table) 0 ≤ classes - 1
    go true e =
        le _ refl
        (not_false (some_beside (taken_with serial table) 0 (classes - 1))
        (no_hole_passes test serial (map (λ (p : Pair). p.serial) table) h e))
    go false e = let none = unknown serial table e in rw none (omega arith)

-- a free class leaves its serial
pub serial_left : (classes serial class : ℕ) (table : List Pair) → class < classes
    → is_hole (taken_with serial table) class ≡ false
    → is_hole (taken_whole classes table) serial ≡ false
serial_left classes serial class table lt h =
    let near =
    next_least (taken_with serial table) 0 class (omega arith)
    (free_stays (taken_with serial table) class h) in
    let some : some_beside (taken_with serial table) 0 (classes - 1) ≡ true = le (omega arith) in
    no_hole (λ n. not (some_beside (taken_with n table) 0 (classes - 1))) serial
    (map (λ (p : Pair). p.serial) table)
    (true_not (some_beside (taken_with serial table) 0 (classes - 1)) some)
  where
    le : next_beside (taken_with serial table) 0 ≤ classes - 1
        → nat_le (next_beside (taken_with serial table) 0) (classes - 1) ≡ true
    le h = grind (arith, nat_tests)

-- no more pass a test than there are
length-filter_le : (t : ℕ → Bool) (xs : List ℕ) → length (filter t xs) ≤ length xs
length-filter_le t [] = omega arith
length-filter_le t (x ∷ xs) = go (t x) refl (length-filter_le t xs)
  where
    go : (b : Bool) → t x ≡ b → length (filter t xs) ≤ length xs
        → length (filter t (x ∷ xs)) ≤ length (x ∷ xs)
    go true e h = rw e (omega arith)
    go false e h = rw e (omega arith)

-- there are as many serials as pairs
length-serials : (table : List Pair) → length (map (λ (p : Pair). p.serial) table) ≡ length table
length-serials [] = refl
length-serials (p ∷ table) = ap suc (length-serials table)

-- some serial is always left
pub some_serial : (classes : ℕ) (table : List Pair) → length table ≤ 256
    → next_beside (taken_whole classes table) 1 ≤ 9223372036854775807
some_serial classes table few =
    omega (
      arith,
      next_near (taken_whole classes table) 1,
      length-filter_le (λ n. not (some_beside (taken_with n table) 0 (classes - 1)))
          (map (λ (p : Pair). p.serial) table),
      length-serials table,
    )
