-- A value is walked from its spelling.
use Rattle.std.proofs.Common.{◌≡◌, ℕ, zero, suc, ◌+◌, ◌<◌, ◌≤◌, Bool, true, false, cond, eqb}
use Rattle.std.proofs.Common.{List as Listed, [], ◌∷◌, ◌++◌, length, map, Option, Some, None, refl}
use Rattle.std.proofs.Common.{sym, ap, subst, ◌∙◌, arith, inl, inr, append_assoc}
use Rattle.std.specs.{Prelude.nat_lt, List.AllByRecursion}
use Rattle.std.proofs.lemmas.{Bool.{eqb-true, lt-ltb}, List.{append-nil, length-append}}
use Rattle.do_base.specs.declared.values.value.Value.{Value}
use Rattle.do_grammar.specs.Dec.{int_in}
use Rattle.do_sched.specs.Value.{between, spaced, value_text}
use Rattle.do_record.specs.{GoodShown.{IsListOf, IsNested, IsSingle}, Value.{Walked, at_value}}
use Rattle.do_record.specs.Value.{deepest, in_list, is_value, is_walked, walk_one, walks}
use Rattle.do_record.proofs.values.SinglesGiven.{EndsValue, single_again}
use Rattle.do_record.proofs.values.{ValueStep.value_text-List, Walking.{open_walks, walks_done}}

-- ---- how many tokens there may be

-- what is walked in some tokens is walked in more
walks_enough : (n m : ℕ) (want : Bool) (depth : ℕ) (rest : Listed ℕ) → n ≤ m
    → walks n want depth rest ≡ true → walks m want depth rest ≡ true
walks_enough zero m want depth rest le h = walks_done m want depth rest h
walks_enough (suc n) zero want depth rest le h = absurd (omega arith)
walks_enough (suc n) (suc m) want depth rest le h =
    go (is_walked want depth rest) (walk_one want depth rest) h
    (λ s q. walks_enough n m s.0 s.1 s.2 (omega arith) q)
  where
    go : (t : Bool) (o : Option Walked)
        → cond t true (elim o [ None ↦ false | Some s ↦ walks n s.0 s.1 s.2 ]) ≡ true
        → ((s : Walked) → walks n s.0 s.1 s.2 ≡ true → walks m s.0 s.1 s.2 ≡ true)
        → cond t true (elim o [ None ↦ false | Some s ↦ walks m s.0 s.1 s.2 ]) ≡ true
    go true o q later = refl
    go false None q later = q
    go false (Some s) q later = later s q

-- a value that is walked is one token more
one_more : (m depth : ℕ) (text : Listed ℕ) (s : Walked) → at_value depth text ≡ Some s
    → walks m s.0 s.1 s.2 ≡ true → walks (suc m) true depth text ≡ true
one_more m depth text s h e =
    ap (λ (o : Option Walked). elim o [ None ↦ false | Some s ↦ walks m s.0 s.1 s.2 ]) h ∙ e

-- a bracket that ends a list begins no value
no_value : (depth : ℕ) (text : Listed ℕ) → at_value depth (93 ∷ text) ≡ None
unfolding int_in
no_value depth text = refl

-- where a value is walked, a list that is open has an item there
has_item : (m depth : ℕ) (text : Listed ℕ) → walks m true (suc depth) text ≡ true
    → in_list depth text ≡ Some (true, depth + 1, text)
has_item zero depth text h = absurd cc
has_item (suc m) depth [] h = absurd cc
has_item (suc m) depth (b ∷ text) h = go (eqb b 93) refl
  where
    go : (t : Bool) → eqb b 93 ≡ t → in_list depth (b ∷ text) ≡ Some (true, depth + 1, b ∷ text)
    go true p =
        let at_end : walks (suc m) true (suc depth) (93 ∷ text) ≡ true =
        subst (λ c. walks (suc m) true (suc depth) (c ∷ text) ≡ true) (eqb-true b 93 p) h in
        let none : walks (suc m) true (suc depth) (93 ∷ text) ≡ false =
        ap (λ (o : Option Walked). elim o [ None ↦ false | Some s ↦ walks m s.0 s.1 s.2 ])
        (no_value (suc depth) text) in
        absurd cc
    go false p = rw p refl

-- ---- values

-- a value is walked, where what stands behind it is
abbrev ValueAgain : ℕ → Value → Type 0
ValueAgain room v = (depth n m : ℕ) (rest : Listed ℕ) → depth + room ≡ 8 → EndsValue rest
    → length (value_text v) + n ≤ m → walks n false depth rest ≡ true
    → walks m true depth (value_text v ++ rest) ≡ true

-- a value without a list has a spelling
single_some : (v : Value) → IsSingle v → 0 < length (value_text v)
single_some v h = go (value_text v) refl
  where
    go : (w : Listed ℕ) → value_text v ≡ w → 0 < length w
    go [] e =
        let some = single_again 0 v [] h tt in
        let none : at_value 0 (value_text v ++ []) ≡ None = ap (λ w. at_value 0 (w ++ [])) e in
        absurd cc
    go (b ∷ w) e = omega arith

-- and it is walked
single_walked : (room : ℕ) (v : Value) → IsSingle v → ValueAgain room v
single_walked room v h depth n zero rest fits ends le e =
    absurd (omega (arith, single_some v h))
single_walked room v h depth n (suc m) rest fits ends le e =
    one_more m depth (value_text v ++ rest) (false, depth, rest) (single_again depth v rest h ends)
    (walks_enough n m false depth rest (omega (arith, single_some v h)) e)

-- ---- lists

module _ (room : ℕ) (each : (v : Value) → IsNested room v → ValueAgain room v)
    (depth n : ℕ) (rest : Listed ℕ) (fits : suc depth + room ≡ 8)
    (goes_on : walks n false depth rest ≡ true) where
  -- what stands behind an item
  abbrev behind : Listed Value → Listed ℕ
  behind vs = spaced (map value_text vs) ++ 93 ∷ rest

  -- a space or a bracket stands first there
  behind_ends : (vs : Listed Value) → EndsValue (behind vs)
  behind_ends [] = inr refl
  behind_ends (v ∷ vs) = inl refl

  -- how many tokens are enough there
  abbrev enough : Listed Value → ℕ
  enough vs = length (spaced (map value_text vs)) + 1 + n

  -- an item is walked where what stands behind it is
  item_walked : (v : Value) (vs : Listed Value) (m : ℕ) → IsNested room v
      → length (value_text v ++ spaced (map value_text vs)) + 1 + n ≤ m
      → walks (enough vs) false (suc depth) (behind vs) ≡ true
      → walks m true (suc depth) ((value_text v ++ spaced (map value_text vs)) ++ 93 ∷ rest) ≡ true
  item_walked v vs m h le e =
      subst (λ w. walks m true (suc depth) w ≡ true)
      (sym (append_assoc (value_text v) (spaced (map value_text vs)) (93 ∷ rest)))
      (each v h (suc depth) (enough vs) m (behind vs) fits (behind_ends vs)
      (omega (arith, length-append (value_text v) (spaced (map value_text vs)))) e)

  -- what stands behind an item is walked
  behind_walked : (vs : Listed Value) (m : ℕ) → AllByRecursion (IsNested room) vs → enough vs ≤ m
      → walks m false (suc depth) (behind vs) ≡ true
  behind_walked vs zero h le = absurd (omega arith)
  behind_walked [] (suc m) h le =
      open_walks m depth (behind []) ∙ walks_enough n m false depth rest (omega arith) goes_on
  behind_walked (v ∷ vs) (suc m) h le =
      open_walks m depth (behind (v ∷ vs))
      ∙ item_walked v vs m h.0 (omega arith) (behind_walked vs (enough vs) h.1 (omega arith))

  -- what stands behind the bracket that begins a list is walked
  inside_walked : (vs : Listed Value) (m : ℕ) → AllByRecursion (IsNested room) vs
      → length (between (map value_text vs)) + 1 + n ≤ m
      → elim (in_list depth (between (map value_text vs) ++ 93 ∷ rest)) [
        | None ↦ false
        | Some s ↦ walks m s.0 s.1 s.2
      ] ≡ true
  inside_walked [] m h le = walks_enough n m false depth rest (omega arith) goes_on
  inside_walked (v ∷ vs) m h le =
      let walked = item_walked v vs m h.0 (omega arith)
      (behind_walked vs (enough vs) h.1 (omega arith)) in
      rw (has_item m depth (between (map value_text (v ∷ vs)) ++ 93 ∷ rest) walked)
      (subst (λ d. walks m true d (between (map value_text (v ∷ vs)) ++ 93 ∷ rest) ≡ true)
      (omega arith) walked)

-- a list is walked where its items are
list_walked : (room : ℕ) → ((v : Value) → IsNested room v → ValueAgain room v) → (v : Value)
    → IsListOf (IsNested room) v → ValueAgain (suc room) v
list_walked room each v h depth n m rest fits ends le e =
    let inside = between (map value_text h.items) in
    let text : value_text v ≡ 91 ∷ inside ++ 93 ∷ [] =
    ap value_text h.is_list ∙ value_text-List h.items in
    let long : length (value_text v) ≡ length inside + 2 =
    ap length text ∙ ap suc (length-append inside (93 ∷ [])) ∙ omega arith in
    subst (λ w. walks m true depth (w ++ rest) ≡ true) (sym text)
    (subst (λ w. walks m true depth (91 ∷ w) ≡ true) (sym (append_assoc inside (93 ∷ []) rest))
    (go m (omega arith)))
  where
    go : (m : ℕ) → length (between (map value_text h.items)) + 2 + n ≤ m
        → walks m true depth (91 ∷ between (map value_text h.items) ++ 93 ∷ rest) ≡ true
    go zero le = absurd (omega arith)
    go (suc m) le =
        let low : nat_lt depth deepest ≡ true = lt-ltb depth deepest (omega arith) in
        rw low (inside_walked room each depth n rest (omega arith) e h.items m h.each (omega arith))

-- each value is walked
value_walked : (room : ℕ) (v : Value) → IsNested room v → ValueAgain room v
value_walked zero v h = single_walked zero v h
value_walked (suc room) v (inl h) = single_walked (suc room) v h
value_walked (suc room) v (inr h) = list_walked room (value_walked room) v h

-- a value is read from its spelling
pub value_again : (v : Value) → IsNested deepest v → is_value (value_text v) ≡ true
value_again v h =
    let walked = value_walked 8 v h 0 0 (length (value_text v)) [] refl tt (omega arith) refl in
    subst (λ w. walks (length (value_text v)) true 0 w ≡ true) (append-nil (value_text v)) walked
