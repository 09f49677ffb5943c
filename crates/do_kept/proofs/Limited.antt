-- A value within the limits on its texts and lists can be carried where its atoms can.
use Rattle.std.proofs.Common.{◌≡◌, ◌&&◌, ◌-◌, ◌*◌, ◌<◌, ℕ, ℤ, Bool, true, false, List as Listed, []}
use Rattle.std.proofs.Common.{◌∷◌, length, map, refl, sym, ap, ◌∙◌, arith, rules}
use Rattle.std.specs.Prelude.{nat_le, nat_lt, pos, suc, zero, ◌^◌}
use Rattle.std.specs.List.{AllByRecursion, list_all}
use Rattle.std.proofs.lemmas.{Bool.{and_from, and_parts, Decides.nat_tests}, List.length-map}
use Rattle.do_base.specs.{names.Names.ObjectName, values.Induction.value_induction}
use Rattle.do_base.specs.values.{Texts.longest_text, Values.weight_of}
use Rattle.do_base.specs.declared.values.value.Value.{List, Value, the_lemmas}
use Rattle.do_base.specs.declared.values.value.Value.TheVariants.{Nil, Num, Obj, Text}
use Rattle.do_grammar.specs.Num.{zigzag}
use Rattle.do_coder.specs.Parts.{is_bytes}
use Rattle.do_behave.specs.Limits.{has_small_parts, nests_within}
use Rattle.do_behave.specs.laws.Nesting.{nests_within-List_none, nests_within-deeper}
use Rattle.do_behave.specs.Numbers.{truth}
use Rattle.do_native_acts.specs.{Limited.is_limited, Rows.listed}
use Rattle.do_limits.specs.Sendable.{IsSendable, can_carry}
use Rattle.do_limits.proofs.values.Carried.{carry-List, carry-Nil, carry-Num, carry-Obj, carry-Text}
use Rattle.do_kept.specs.Atoms.{has_atoms}

-- ---- atoms, kind by kind

-- nil has atoms
pub atoms-Nil : has_atoms Nil ≡ true
atoms-Nil = search (rules, the_lemmas)

-- a number has that is of 64 bits
pub atoms-Num : (z : ℤ) → has_atoms (Num z) ≡ nat_lt (zigzag z) (2 ^ 64)
atoms-Num z = search (rules, the_lemmas)

-- a text has that is of bytes
pub atoms-Text : (t : Listed ℕ) → has_atoms (Text t) ≡ is_bytes t
atoms-Text t = search (rules, the_lemmas)

-- an object has
pub atoms-Obj : (o : ObjectName) → has_atoms (Obj o) ≡ true
atoms-Obj o = search (rules, the_lemmas)

-- a list has whose items have
pub atoms-List : (vs : Listed Value) →
    has_atoms (List vs) ≡ list_all (λ b. b) (map has_atoms vs)
atoms-List vs = search (rules, the_lemmas)

-- a value has such atoms
abbrev pub HasAtoms : Value → Type 0
HasAtoms v = has_atoms v ≡ true

-- so does each of these
abbrev pub AllHaveAtoms : Listed Value → Type 0
AllHaveAtoms vs = AllByRecursion HasAtoms vs

-- so does a list of them
pub list_atoms : (vs : Listed Value) → AllHaveAtoms vs → HasAtoms (List vs)
list_atoms vs h = atoms-List vs ∙ go vs h
  where
    go : (vs : Listed Value) → AllHaveAtoms vs → list_all (λ b. b) (map has_atoms vs) ≡ true
    go [] h = refl
    go (v ∷ vs) h = and_from (has_atoms v) _ h.0 (go vs h.1)

-- and the items of such a list
pub parts_atoms : (vs : Listed Value) → HasAtoms (List vs) → AllHaveAtoms vs
parts_atoms vs h = go vs (sym (atoms-List vs) ∙ h)
  where
    go : (vs : Listed Value) → list_all (λ b. b) (map has_atoms vs) ≡ true → AllHaveAtoms vs
    go [] e = tt
    go (v ∷ vs) e = let es = and_parts (has_atoms v) _ e in (es.0, go vs es.1)

-- a list as a slot keeps it
pub listed_atoms : (vs : Listed Value) → AllHaveAtoms vs → HasAtoms (listed vs)
listed_atoms [] h = atoms-Nil
listed_atoms (v ∷ vs) h = list_atoms (v ∷ vs) h

-- a number from 0 on of 63 bits has atoms
pub count_atoms : (n : ℕ) → n < 9223372036854775808 → HasAtoms (Num (pos n))
count_atoms n h = atoms-Num (pos n) ∙ less n h
  where
    less : (k : ℕ) → k < 9223372036854775808 → nat_lt (2 * k) 18446744073709551616 ≡ true
    less k h = grind (arith, nat_tests, h)

-- so has a truth
pub truth_atoms : (b : Bool) → HasAtoms (Num (truth b))
truth_atoms true = count_atoms 1 (omega arith)
truth_atoms false = count_atoms 0 (omega arith)

-- ---- small parts, kind by kind

-- a text is small that is not too long
small-Text : (t : Listed ℕ) → has_small_parts (Text t) ≡ nat_le (length t) longest_text
small-Text t = search (rules, the_lemmas)

-- a list is of a few small items
small-List : (vs : Listed Value) → has_small_parts (List vs)
    ≡ (nat_le (length (map has_small_parts vs)) 1024 && list_all (λ b. b) (map has_small_parts vs))
small-List vs = search (rules, the_lemmas)

-- ---- what can be carried

-- a value with small parts, so many lists deep, can be carried where its atoms can
abbrev Carries : Value → Type 0
Carries v = (depth : ℕ) → has_small_parts v ≡ true → nests_within v depth ≡ true → HasAtoms v →
    can_carry v depth ≡ true

-- so can items
items_carry : (depth : ℕ) (vs : Listed Value) → AllByRecursion Carries vs →
    list_all (λ b. b) (map has_small_parts vs) ≡ true →
    list_all (λ v. nests_within v depth) vs ≡ true → list_all (λ b. b) (map has_atoms vs) ≡ true →
    list_all (λ (f : ℕ → Bool). f depth) (map can_carry vs) ≡ true
items_carry depth [] h s n a = refl
items_carry depth (v ∷ vs) h s n a =
    let ss = and_parts (has_small_parts v) _ s in
    let ns = and_parts (nests_within v depth) _ n in
    let ks = and_parts (has_atoms v) _ a in
    and_from (can_carry v depth) _ (h.0 depth ss.0 ns.0 ks.0)
    (items_carry depth vs h.1 ss.1 ns.1 ks.1)

-- a number above another is above 0
above : (n : ℕ) → nat_lt 0 (suc n) ≡ true
above n = grind (arith, nat_tests)

-- and a list of them
list_carries : (vs : Listed Value) → AllByRecursion Carries vs → Carries (List vs)
list_carries vs h zero s n a = absurd (cc (nests_within-List_none vs, n))
list_carries vs h (suc d) s n a =
    let parts = and_parts (nat_le (length (map has_small_parts vs)) 1024) _
    (sym (small-List vs) ∙ s)
    in
    carry-List (suc d) vs
    ∙ and_from (nat_lt 0 (suc d)) _ (above d)
    (and_from (nat_le (length (map can_carry vs)) 1024) _
    (ap (λ k. nat_le k 1024) (length-map vs can_carry ∙ sym (length-map vs has_small_parts))
    ∙ parts.0)
    (items_carry (suc d - 1) vs h parts.1
    (sym (nests_within-deeper vs (suc d) (omega arith)) ∙ n) (sym (atoms-List vs) ∙ a)))

-- each value
carries : (v : Value) → Carries v
carries =
    value_induction Carries
    (λ d s n a. carry-Nil d)
    (λ z d s n a. carry-Num d z ∙ sym (atoms-Num z) ∙ a)
    (λ t d s n a. carry-Text d t
    ∙ and_from (nat_le (length t) longest_text) _ (sym (small-Text t) ∙ s) (sym (atoms-Text t) ∙ a))
    (λ o d s n a. carry-Obj d o)
    list_carries

-- a value that passes the test of native acts can be carried where its atoms can
pub limited_sendable : (v : Value) → HasAtoms v → is_limited v ≡ true → IsSendable v
limited_sendable v a is =
    let parts = and_parts (has_small_parts v) _ is in
    let deep = and_parts (nests_within v 8) (nat_le (weight_of v) 2097152) parts.1 in
    carries v 8 parts.0 deep.0 a

-- ---- what was carried

-- what can be carried has such atoms
abbrev Carried : Value → Type 0
Carried v = (depth : ℕ) → can_carry v depth ≡ true → HasAtoms v

-- so have items
items_carried : (depth : ℕ) (vs : Listed Value) → AllByRecursion Carried vs →
    list_all (λ (f : ℕ → Bool). f depth) (map can_carry vs) ≡ true →
    list_all (λ b. b) (map has_atoms vs) ≡ true
items_carried depth [] h c = refl
items_carried depth (v ∷ vs) h c =
    let cs = and_parts (can_carry v depth) _ c in
    and_from (has_atoms v) _ (h.0 depth cs.0) (items_carried depth vs h.1 cs.1)

-- each value
pub sendable_atoms : (v : Value) → IsSendable v → HasAtoms v
sendable_atoms v h = all v 8 h
  where
    all : (v : Value) → Carried v
    all =
        value_induction Carried
        (λ d c. atoms-Nil)
        (λ z d c. atoms-Num z ∙ sym (carry-Num d z) ∙ c)
        (λ t d c. atoms-Text t
        ∙ (and_parts (nat_le (length t) longest_text) _ (sym (carry-Text d t) ∙ c)).1)
        (λ o d c. atoms-Obj o)
        (λ vs ih d c. atoms-List vs ∙ items_carried (d - 1) vs ih
        (and_parts (nat_le (length (map can_carry vs)) 1024) _
        (and_parts (nat_lt 0 d) _ (sym (carry-List d vs) ∙ c)).1).1)
