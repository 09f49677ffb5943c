-- The objects that a value names, each once.
use Rattle.std.proofs.Common.{◌≡◌, ℕ, ◌+◌, ◌<◌, Bool, true, false, cond, List as Listed, [], ◌∷◌}
use Rattle.std.proofs.Common.{◌++◌, refl, sym, ap, ◌∙◌, arith, rules, length, get_or, drop, ℤ, inl}
use Rattle.std.proofs.Common.{inr, ne_eqb, ◌==◌, ◌&&◌, if◌then◌else◌}
use Rattle.std.specs.{Prelude.◌||◌, List.flat_map}
use Rattle.std.proofs.lemmas.{Bool.cases_eq, List.{at_drop_more, Folds.list_any-append}}
use Rattle.std.proofs.lemmas.List.Sums.{sum_by-cons, sum_by-append, fold-append}
use Rattle.do_base.specs.{names.Names.ObjectName, values.Values.objects_of}
use Rattle.do_base.specs.declared.values.value.Value.{Value, the_lemmas}
use Rattle.do_base.specs.declared.values.value.Value.TheVariants.{Nil, Num, Text, Obj}
use Rattle.do_packet.specs.Met.{has_object, same_object, met, met_one}
use Rattle.do_stack.{specs.Uses.{times, CountsOnce}, proofs.UsesMove.{uses-one, objects-list}}

-- one where an object is among others
abbrev here : ObjectName → Listed ObjectName → ℕ
here o os = cond (has_object os o) 1 0

-- of two tests that hold together, the first holds
and_first : (a b : Bool) → (a && b) ≡ true → a ≡ true
and_first true b h = refl
and_first false b h = h

-- of two tests that hold together, the second holds
and_second : (a b : Bool) → (a && b) ≡ true → b ≡ true
and_second true b h = h
and_second false b h = absurd (cc)

-- anything or false is itself
or_false : (b : Bool) → (b || false) ≡ b
or_false true = refl
or_false false = refl

-- of three tests it is the same which two are first
or_assoc : (x y z : Bool) → ((x || y) || z) ≡ (x || (y || z))
or_assoc true y z = refl
or_assoc false y z = refl

-- equal numbers by test are equal
equal : (m n : ℕ) → (m == n) ≡ true → m ≡ n
equal m n e = elim (cases_eq m n) [
  | inl same ↦ same
  | inr apart ↦ let f = sym (ne_eqb m n apart) ∙ e in absurd (cc)
]

-- the same object has the same name
same_is : (o x : ObjectName) → same_object o x ≡ true → o ≡ x
same_is o x e =
    let n = equal o.node x.node (and_first _ _ e) in
    let s = equal o.serial x.serial (and_second _ _ e) in
    λ i. record { node = n i; serial = s i }

-- the objects met have each once, as those before did
met_one_times : (o x : ObjectName) (os : Listed ObjectName) → times o os ≡ here o os
    → (times o (met_one os x) ≡ here o (met_one os x))
    × (has_object (met_one os x) o ≡ (has_object os o || same_object o x))
met_one_times o x os once = go (has_object os x) (same_object o x) refl refl
  where
    -- whether the object was met before or not, and whether it is the one that is counted or not
    go : (h s : Bool) → has_object os x ≡ h → same_object o x ≡ s
        → (times o (if h then os else os ++ x ∷ []) ≡ here o (if h then os else os ++ x ∷ []))
        × (has_object (if h then os else os ++ x ∷ []) o ≡ (has_object os o || s))
    go true false h s = (once, sym (or_false (has_object os o)))
    go true true h s =
        let has = ap (has_object os) (same_is o x s) ∙ h in
        (once, has ∙ sym (ap (λ b. b || true) has))
    go false s h is =
        let any = list_any-append (same_object o) os (x ∷ [])
        ∙ ap (λ b. has_object os o || b) (or_false (same_object o x) ∙ is) in
        (more s h is ∙ sym (ap (λ b. cond b 1 0) any), any)
      where
        -- an object that is new is counted once more, and each other as before
        more : (s : Bool) → has_object os x ≡ false → same_object o x ≡ s
            → times o (os ++ x ∷ []) ≡ cond (has_object os o || s) 1 0
        more true h is =
            let none = ap (has_object os) (same_is o x is) ∙ h in
            let nil = once ∙ ap (λ b. cond b 1 0) none in
            let a = sum_by-append (λ y. cond (same_object o y) 1 0) os (x ∷ []) in
            let b = sum_by-cons (λ y. cond (same_object o y) 1 0) x [] in
            let c = ap {B = ℕ} (λ b. cond b 1 0) is in
            let d = ap {B = ℕ} (λ b. cond (b || true) 1 0) none in
            omega arith
        more false h is =
            let a = sum_by-append (λ y. cond (same_object o y) 1 0) os (x ∷ []) in
            let b = sum_by-cons (λ y. cond (same_object o y) 1 0) x [] in
            let c = ap {B = ℕ} (λ b. cond b 1 0) is in
            let d = ap {B = ℕ} (λ b. cond b 1 0) (or_false (has_object os o)) in
            let e : times o os ≡ cond (has_object os o) 1 0 = once in
            omega (arith, a, b, c, d, e)

-- so it goes for more of them
met_times : (o : ObjectName) (more os : Listed ObjectName) → times o os ≡ here o os
    → times o (met os more) ≡ cond (has_object os o || has_object more o) 1 0
met_times o [] os once = once ∙ ap (λ b. cond b 1 0) (sym (or_false (has_object os o)))
met_times o (x ∷ more) os once =
    let next = met_one_times o x os once in
    met_times o more (met_one os x) next.0
    ∙ ap (λ b. cond (b || has_object more o) 1 0) next.1
    ∙ ap (λ b. cond b 1 0) (or_assoc (has_object os o) (same_object o x) (has_object more o))

-- to count each object once is to count the uses
pub counts_once : CountsOnce
counts_once v o = met_times o (objects_of v) [] refl ∙ sym (uses-one o v)

-- an object alone
pub objects-Obj : (o : ObjectName) → objects_of (Obj o) ≡ o ∷ []
objects-Obj o = search (rules, the_lemmas)

-- a value that holds no object
pub objects-Nil : objects_of Nil ≡ []
objects-Nil = search (rules, the_lemmas)

-- a number holds none
pub objects-Num : (n : ℤ) → objects_of (Num n) ≡ []
objects-Num n = search (rules, the_lemmas)

-- nor does a text
pub objects-Text : (s : Listed ℕ) → objects_of (Text s) ≡ []
objects-Text s = search (rules, the_lemmas)

-- the values still to come, without the first
pub met_next : (os : Listed ObjectName) (vs : Listed Value) (i : ℕ) (d : Value) → i < length vs
    → met (met os (objects_of (get_or vs i d))) (flat_map objects_of (drop (i + 1) vs))
    ≡ met os (flat_map objects_of (drop i vs))
met_next os vs i d within =
    sym (at_drop_more (λ l. met os (flat_map objects_of l)) vs i d within
    ∙ fold-append met_one os (objects_of (get_or vs i d)) (flat_map objects_of (drop (i + 1) vs)))

-- what the walk along a value asks
pub ruleset naming_steps = (objects-Obj, objects-list, objects-Nil, objects-Num, objects-Text)
