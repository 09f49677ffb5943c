-- A value is taken, where the items of lists are in fewer tokens.
use Rattle.std.proofs.Common.{◌≡◌, ℕ, zero, suc, ◌+◌, ◌<◌, ◌≤◌, Bool, true, false, cond, eqb}
use Rattle.std.proofs.Common.{List as Listed, [], ◌∷◌, ◌++◌, map, Option, Some, None, refl, sym, ap}
use Rattle.std.proofs.Common.{subst, ◌∙◌, arith, rules, inl, inr, append_assoc}
use Rattle.std.specs.{Prelude.{nat_lt, option_map}, List.AllByRecursion}
use Rattle.std.proofs.lemmas.Bool.{eqb-true, ltb-true}
use Rattle.do_base.specs.declared.values.value.Value.{Value, List, the_lemmas}
use Rattle.do_base.specs.values.Texts.{longest_text}
use Rattle.do_grammar.specs.Quoted.{quoted_at}
use Rattle.do_sched.specs.Value.{between, value_text}
use Rattle.do_record.specs.GoodShown.{IsNested, IsSingle}
use Rattle.do_record.specs.Value.{Walked, behind_leaf, behind_quote, deepest, in_list, walks}
use Rattle.do_record.proofs.values.SinglesTaken.{TakesSingle, leaf_takes, quote_takes}

-- a list is spelled by what its items are
pub value_text-List : (vs : Listed Value)
    → value_text (List vs) ≡ 91 ∷ between (map value_text vs) ++ 93 ∷ []
value_text-List vs = search (rules, the_lemmas)

-- a value that begins some bytes, and how the walk goes on behind it, in fewer tokens
pub record TakesValue (n depth room : ℕ) (bytes : Listed ℕ) : Type 0 where
  pub value : Value
  pub rest : Listed ℕ
  pub left : ℕ
  pub spelled : bytes ≡ value_text value ++ rest
  pub good : IsNested room value
  pub fewer : left < n
  pub goes_on : walks left false depth rest ≡ true

-- the items of a list that is open, up to its end, and how the walk goes on behind it
pub record TakesItems (n depth room : ℕ) (bytes : Listed ℕ) : Type 0 where
  pub first : Value
  pub others : Listed Value
  pub rest : Listed ℕ
  pub left : ℕ
  pub spelled : bytes ≡ between (map value_text (first ∷ others)) ++ 93 ∷ rest
  pub good : AllByRecursion (IsNested room) (first ∷ others)
  pub fewer : left < n
  pub goes_on : walks left false depth rest ≡ true

-- in so many tokens values are taken, and items
abbrev pub Values : ℕ → Type 0
Values k = (n depth room : ℕ) (bytes : Listed ℕ) → n ≤ k → depth + room ≡ 8
    → walks n true depth bytes ≡ true → TakesValue n depth room bytes

abbrev pub Items : ℕ → Type 0
Items k = (n depth room : ℕ) (bytes : Listed ℕ) → n ≤ k → suc depth + room ≡ 8
    → walks n true (suc depth) bytes ≡ true → TakesItems n depth room bytes

-- a value without a list may stand where lists may
single_nested : (room : ℕ) (v : Value) → IsSingle v → IsNested room v
single_nested zero v h = h
single_nested (suc room) v h = inl h

-- ---- one value

-- a list is a value
listed : (n m depth room : ℕ) (bytes text rest : Listed ℕ) (vs : Listed Value) → m < n
    → bytes ≡ 91 ∷ text → text ≡ between (map value_text vs) ++ 93 ∷ rest
    → AllByRecursion (IsNested room) vs → walks m false depth rest ≡ true
    → TakesValue n depth (suc room) bytes
listed n m depth room bytes text rest vs fewer first inside good goes_on = record {
  value = List vs;
  rest = rest;
  left = m;
  spelled = first ∙ ap (λ w. 91 ∷ w) (inside
      ∙ sym (append_assoc (between (map value_text vs)) (93 ∷ []) rest))
      ∙ ap (λ w. w ++ rest) (sym (value_text-List vs));
  good = inr (record { items = vs; is_list = refl; each = good });
  fewer = fewer;
  goes_on = goes_on;
}

-- behind the bracket that begins a list
opened : (k n depth room : ℕ) (bytes text : Listed ℕ) → Items k → n ≤ k → depth + suc room ≡ 8
    → bytes ≡ 91 ∷ text
    → elim (in_list depth text) [ None ↦ false | Some s ↦ walks n s.0 s.1 s.2 ] ≡ true
    → TakesValue (suc n) depth (suc room) bytes
opened k n depth room bytes [] items small fits first h = absurd cc
opened k n depth room bytes (b ∷ text) items small fits first h = go (eqb b 93) refl h
  where
    go : (t : Bool) → eqb b 93 ≡ t
        → elim (cond {A = Option Walked} t (Some (false, depth, text))
        (Some (true, depth + 1, b ∷ text))) [
          | None ↦ false
          | Some s ↦ walks n s.0 s.1 s.2
        ] ≡ true → TakesValue (suc n) depth (suc room) bytes
    go true p q =
        listed (suc n) n depth room bytes (b ∷ text) text [] (omega arith) first
        (ap (λ w. w ∷ text) (eqb-true b 93 p)) tt q
    go false p q =
        let more : walks n true (suc depth) (b ∷ text) ≡ true =
        subst (λ d. walks n true d (b ∷ text) ≡ true) (omega arith) q in
        let i = items n depth room (b ∷ text) small (omega arith) more in
        let fewer = i.fewer in
        listed (suc n) i.left depth room bytes (b ∷ text) i.rest (i.first ∷ i.others)
        (omega arith) first i.spelled i.good i.goes_on

-- a value without a list, once it is walked
single : (n depth room : ℕ) (bytes : Listed ℕ) (s : Walked)
    → ((false, depth, s.2) ≡ s) × TakesSingle bytes s.2 → walks n s.0 s.1 s.2 ≡ true
    → TakesValue (suc n) depth room bytes
single n depth room bytes s h e = record {
  value = h.1.value;
  rest = s.2;
  left = n;
  spelled = h.1.spelled;
  good = single_nested room h.1.value h.1.good;
  fewer = omega arith;
  goes_on = subst (λ (x : Walked). walks n x.0 x.1 x.2 ≡ true) (sym h.0) e;
}

-- a value, where items are taken in fewer tokens
pub value_step : (k : ℕ) → Items k → Values (suc k)
value_step k items zero depth room bytes small fits h = absurd cc
value_step k items (suc n) depth room [] small fits h = absurd cc
value_step k items (suc n) depth room (b ∷ bytes) small fits h = go (eqb b 34) refl h
  where
    walked : Option Walked → Bool
    walked o = elim o [ None ↦ false | Some s ↦ walks n s.0 s.1 s.2 ]

    by_quote : (o : Option Walked)
        → ((s : Walked) → o ≡ Some s → ((false, depth, s.2) ≡ s) × TakesSingle (b ∷ bytes) s.2)
        → walked o ≡ true → TakesValue (suc n) depth room (b ∷ bytes)
    by_quote None takes e = absurd cc
    by_quote (Some s) takes e = single n depth room (b ∷ bytes) s (takes s refl) e

    in_brackets : (r : ℕ) → room ≡ r → b ≡ 91 → (t : Bool) → nat_lt depth deepest ≡ t
        → walked (cond t (in_list depth bytes) None) ≡ true
        → TakesValue (suc n) depth room (b ∷ bytes)
    in_brackets r is first false p q = absurd cc
    in_brackets zero is first true p q = absurd (omega (arith, ltb-true depth deepest p))
    in_brackets (suc r) is first true p q =
        subst (λ m. TakesValue (suc n) depth m (b ∷ bytes)) (sym is)
        (opened k n depth r (b ∷ bytes) bytes items (omega arith) (omega arith)
        (ap (λ w. w ∷ bytes) first) q)

    other : (t : Bool) → eqb b 91 ≡ t
        → walked (cond t (cond (nat_lt depth deepest) (in_list depth bytes) None)
        (behind_leaf depth (b ∷ bytes))) ≡ true → TakesValue (suc n) depth room (b ∷ bytes)
    other true p q =
        in_brackets room refl (eqb-true b 91 p) (nat_lt depth deepest) refl q
    other false p q =
        by_quote (behind_leaf depth (b ∷ bytes)) (leaf_takes depth (b ∷ bytes)) q

    go : (t : Bool) → eqb b 34 ≡ t
        → walked (cond t (behind_quote depth (option_map (λ x. x.1) (quoted_at longest_text
        (b ∷ bytes)))) (cond (eqb b 91) (cond (nat_lt depth deepest) (in_list depth bytes) None)
        (behind_leaf depth (b ∷ bytes)))) ≡ true → TakesValue (suc n) depth room (b ∷ bytes)
    go true p q =
        by_quote (behind_quote depth (option_map (λ x. x.1) (quoted_at longest_text (b ∷ bytes))))
        (quote_takes depth (b ∷ bytes)) q
    go false p q = other (eqb b 91) refl q
