-- The lists that scripts make can be carried, and so can what stands in them.
use Rattle.std.proofs.Common.{◌≡◌, ◌++◌, ◌-◌, ◌<◌, ◌≤◌, ℕ, ℤ, Bool, true, List as Listed, [], ◌∷◌}
use Rattle.std.proofs.Common.{length, map, refl, sym, subst, arith, rules, ◌∙◌}
use Rattle.do_facts.proofs.EachOfLists.{each_joined, each_of}
use Rattle.std.specs.Prelude.{None, Some, nat_le, nat_lt, pos, suc, zero}
use Rattle.std.specs.{List.{AllByRecursion, list_all}, Option.IfSome}
use Rattle.std.proofs.lemmas.{Bool.{and_from, and_parts, Decides.nat_tests}, List.length-map}
use Rattle.do_base.specs.{names.Names.ObjectName, values.Induction.value_induction}
use Rattle.do_base.specs.{values.Texts.longest_text, declared.values.value.Value.{List, Value}}
use Rattle.do_base.specs.declared.values.value.Value.{the_lemmas, TheVariants.{Nil, Num, Obj, Text}}
use Rattle.do_coder.specs.Parts.{is_bytes}
use Rattle.do_behave.specs.{Limits.nests_within, Lists.{can_be, count}}
use Rattle.do_behave.specs.laws.Nesting.{nests_within-List_none, nests_within-deeper}
use Rattle.do_limits.specs.Sendable.{AreSendable, IsSendable, can_carry}
use Rattle.do_limits.proofs.values.Carried.{carry-List, carry-Nil, carry-Num, carry-Obj, carry-Text}
use Rattle.do_limits.proofs.scripts.MadeNumbers.{count_sendable}

-- the parts of a list that can be carried
list_parts : (depth : ℕ) (vs : Listed Value) → can_carry (List vs) depth ≡ true →
    (0 < depth) × ((length vs ≤ 1024)
    × (list_all (λ (f : ℕ → Bool). f (depth - 1)) (map can_carry vs) ≡ true))
list_parts depth vs e =
    let deep = and_parts (nat_lt 0 depth) _ (sym (carry-List depth vs) ∙ e) in
    let short = and_parts (nat_le (length (map can_carry vs)) 1024) _ deep.1 in (
      above depth deep.0,
      (at_most (length (map can_carry vs)) (length vs) (length-map vs can_carry) short.0, short.1),
    )
  where
    above : (n : ℕ) → nat_lt 0 n ≡ true → 0 < n
    above n e = grind (arith, nat_tests, e)

    at_most : (m n : ℕ) → m ≡ n → nat_le m 1024 ≡ true → n ≤ 1024
    at_most m n same e = grind (arith, nat_tests, e, same)

-- a list of values that can be carried one less deep
list_of : (depth : ℕ) (vs : Listed Value) → 0 < depth → length vs ≤ 1024 →
    list_all (λ (f : ℕ → Bool). f (depth - 1)) (map can_carry vs) ≡ true →
    can_carry (List vs) depth ≡ true
list_of depth vs deep few all =
    carry-List depth vs
    ∙ and_from (nat_lt 0 depth) _ (above depth deep)
    (and_from (nat_le (length (map can_carry vs)) 1024) _
    (at_most (length (map can_carry vs)) (length vs) (length-map vs can_carry) few) all)
  where
    above : (n : ℕ) → 0 < n → nat_lt 0 n ≡ true
    above n e = grind (arith, nat_tests, e)

    at_most : (m n : ℕ) → m ≡ n → n ≤ 1024 → nat_le m 1024 ≡ true
    at_most m n same e = grind (arith, nat_tests, e, same)

-- a value that can be carried can be as deep as its lists nest
abbrev Carries : Value → Type 0
Carries v = (d e : ℕ) → can_carry v d ≡ true → nests_within v e ≡ true → can_carry v e ≡ true

-- so can items
items_carried : (d e : ℕ) (vs : Listed Value) → AllByRecursion Carries vs →
    list_all (λ (f : ℕ → Bool). f d) (map can_carry vs) ≡ true →
    list_all (λ v. nests_within v e) vs ≡ true →
    list_all (λ (f : ℕ → Bool). f e) (map can_carry vs) ≡ true
items_carried d e [] h c n = refl
items_carried d e (v ∷ vs) h c n =
    let cs = and_parts (can_carry v d) _ c in
    let ns = and_parts (nests_within v e) _ n in
    and_from (can_carry v e) _ (h.0 d e cs.0 ns.0) (items_carried d e vs h.1 cs.1 ns.1)

-- so can each value
carries : (v : Value) → Carries v
carries =
    value_induction Carries
    (λ d e c n. carry-Nil e)
    (λ z d e c n. carry-Num e z ∙ sym (carry-Num d z) ∙ c)
    (λ s d e c n. carry-Text e s ∙ sym (carry-Text d s) ∙ c)
    (λ o d e c n. carry-Obj e o)
    (λ vs h d e c n. list vs h d e c n)
  where
    list : (vs : Listed Value) → AllByRecursion Carries vs → Carries (List vs)
    list vs h d zero c n = absurd (cc (nests_within-List_none vs, n))
    list vs h d (suc e) c n =
        let parts = list_parts d vs c in
        list_of (suc e) vs (omega arith) parts.1.0
        (items_carried (d - 1) (suc e - 1) vs h parts.1.1
        (sym (nests_within-deeper vs (suc e) (omega arith)) ∙ n))

-- what can be carried can be one deeper
deeper : (v : Value) (d : ℕ) → can_carry v d ≡ true → can_carry v (suc d) ≡ true
deeper =
    value_induction (λ v. (d : ℕ) → can_carry v d ≡ true → can_carry v (suc d) ≡ true)
    (λ d c. carry-Nil (suc d)) (λ z d c. carry-Num (suc d) z ∙ sym (carry-Num d z) ∙ c)
    (λ s d c. carry-Text (suc d) s ∙ sym (carry-Text d s) ∙ c) (λ o d c. carry-Obj (suc d) o)
    (λ vs h d c. list vs h d c)
  where
    each : (vs : Listed Value) (d : ℕ) → AllByRecursion
        (λ v. (d : ℕ) → can_carry v d ≡ true → can_carry v (suc d) ≡ true) vs →
        list_all (λ (f : ℕ → Bool). f d) (map can_carry vs) ≡ true →
        list_all (λ (f : ℕ → Bool). f (suc d)) (map can_carry vs) ≡ true
    each [] d h e = refl
    each (v ∷ vs) d h e =
        let es = and_parts (can_carry v d) _ e in
        and_from (can_carry v (suc d)) _ (h.0 d es.0) (each vs d h.1 es.1)

    list : (vs : Listed Value) → AllByRecursion
        (λ v. (d : ℕ) → can_carry v d ≡ true → can_carry v (suc d) ≡ true) vs → (d : ℕ) →
        can_carry (List vs) d ≡ true → can_carry (List vs) (suc d) ≡ true
    list vs h d c =
        let parts = list_parts d vs c in
        let same : suc (d - 1) ≡ suc d - 1 = omega (arith, parts.0) in
        list_of (suc d) vs (omega arith) parts.1.0
        (subst (λ n. list_all (λ (f : ℕ → Bool). f n) (map can_carry vs) ≡ true) same
        (each vs (d - 1) h parts.1.1))

-- the items of a list
pub items_sendable : (vs : Listed Value) → IsSendable (List vs) → AreSendable vs
items_sendable vs h = each vs (list_parts 8 vs h).1.1
  where
    each : (vs : Listed Value) → list_all (λ (f : ℕ → Bool). f 7) (map can_carry vs) ≡ true →
        AreSendable vs
    each [] e = tt
    each (v ∷ vs) e =
        let es = and_parts (can_carry v 7) _ e in (deeper v 7 es.0, each vs es.1)

-- an empty list
pub empty_sendable : IsSendable (List [])
empty_sendable = list_of 8 [] (omega arith) (omega arith) refl

-- a list that a value was pushed to
pub pushed_sendable : (vs : Listed Value) (v : Value) → IsSendable (List vs) → IsSendable v →
    can_be (vs ++ v ∷ []) ≡ true → IsSendable (List (vs ++ v ∷ []))
pushed_sendable vs v list item fits =
    let ws = vs ++ v ∷ [] in
    let limits = and_parts (nat_le (length ws) 1024) _ fits in
    let nests = (and_parts (nests_within (List ws) 8) _ limits.1).0 in
    list_of 8 ws (omega arith) (at_most (length ws) limits.0)
    (items_carried 8 7 ws (each_of Carries carries ws)
    (all_of ws (each_joined IsSendable vs (v ∷ []) (items_sendable vs list) (item, tt)))
    (sym (nests_within-deeper ws 8 (omega arith)) ∙ nests))
  where
    at_most : (n : ℕ) → nat_le n 1024 ≡ true → n ≤ 1024
    at_most n e = grind (arith, nat_tests, e)

    all_of : (ws : Listed Value) → AreSendable ws →
        list_all (λ (f : ℕ → Bool). f 8) (map can_carry ws) ≡ true
    all_of [] h = refl
    all_of (w ∷ ws) h = and_from (can_carry w 8) _ h.0 (all_of ws h.1)

-- how many items or bytes a value has
pub count_kept : (v : Value) → IsSendable v → IfSome (count v) (λ n. IsSendable (Num (pos n)))
count_kept =
    value_induction Counts
    (λ h. subst (λ o. IfSome o Fits) (sym count-Nil) (count_sendable 0 (omega arith)))
    (λ n h. subst (λ o. IfSome o Fits) (sym (count-Num n)) tt)
    (λ s h. subst (λ o. IfSome o Fits) (sym (count-Text s)) (count_sendable (length s) (short s h)))
    (λ o h. subst (λ k. IfSome k Fits) (sym (count-Obj o)) tt)
    (λ vs k h. subst (λ o. IfSome o Fits) (sym (count-List vs))
    (count_sendable (length vs) (few vs h)))
  where
    Fits : ℕ → Type 0
    Fits n = IsSendable (Num (pos n))

    Counts : Value → Type 0
    Counts v = IsSendable v → IfSome (count v) Fits

    count-Nil : count Nil ≡ Some 0
    count-Nil = search (rules, the_lemmas)

    count-Num : (n : ℤ) → count (Num n) ≡ None
    count-Num n = search (rules, the_lemmas)

    count-Text : (s : Listed ℕ) → count (Text s) ≡ Some (length s)
    count-Text s = search (rules, the_lemmas)

    count-Obj : (o : ObjectName) → count (Obj o) ≡ None
    count-Obj o = search (rules, the_lemmas)

    count-List : (vs : Listed Value) → count (List vs) ≡ Some (length vs)
    count-List vs = search (rules, the_lemmas)

    at_most : (n : ℕ) → nat_le n 1048575 ≡ true → n ≤ 1048575
    at_most n e = grind (arith, nat_tests, e)

    short : (s : Listed ℕ) → IsSendable (Text s) → length s ≤ 1048575
    short s h =
        at_most (length s)
        (and_parts (nat_le (length s) longest_text) (is_bytes s) (sym (carry-Text 8 s) ∙ h)).0

    few : (vs : Listed Value) → IsSendable (List vs) → length vs ≤ 1048575
    few vs h = let parts = list_parts 8 vs h in omega (arith, parts.1.0)
