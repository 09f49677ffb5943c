-- The turns of the loop over the values of a line.
use Rattle.std.proofs.Common.{◌≡◌, ◌≢◌, ℕ, suc, ◌+◌, ◌-◌, ◌<◌, ◌≤◌, List as Listed, [], ◌∷◌, ◌++◌}
use Rattle.std.proofs.Common.{length, Option, Some, None, refl, sym, ap, ◌∙◌, append_assoc, arith}
use Rattle.std.{specs.Option.option_map, proofs.lemmas.{Bool.ne_eqb, List.append-nil}}
use Rattle.do_base.specs.declared.values.value.Value.{Value}
use Rattle.do_grammar.specs.Words.{◌>>?◌}
use Rattle.do_sched.specs.Reading.{plain_at, values_at}

-- what was read before, and what is still read
abbrev pub with_front : Listed Value → Option (Listed Value) → Option (Listed Value)
with_front front o = option_map (λ vs. front ++ vs) o

-- a value moves from what is still read to what was read
regroup : (front : Listed Value) (v : Value) (o : Option (Listed Value))
    → with_front front (o >>? λ vs. Some (v ∷ vs)) ≡ with_front (front ++ v ∷ []) o
regroup front v None = refl
regroup front v (Some vs) = ap (λ (w : Listed Value). Some w) (simp append_assoc)

-- one more value was read
pub value_turn : (front more : Listed Value) (limit count i b : ℕ) (rest behind after : Listed ℕ)
    (v : Value) (total : Option (Listed Value)) → i < count → rest ≡ b ∷ behind → b ≡ 32
    → ◌≡◌ {A = Option (Value × Listed ℕ)} (Some (v, after)) (plain_at limit behind)
    → more ≡ front ++ v ∷ []
    → with_front front (values_at limit (count - i) rest) ≡ total
    → with_front more (values_at limit (count - (i + 1)) after) ≡ total
value_turn front more limit count i b rest behind after v total lt e space h m so_far =
    let k : count - i ≡ suc (count - (i + 1)) = omega arith in
    let whole : rest ≡ 32 ∷ behind = e ∙ ap (λ (w : ℕ). w ∷ behind) space in
    let one : with_front front (values_at limit (count - i) rest)
    ≡ with_front (front ++ v ∷ []) (values_at limit (count - (i + 1)) after) =
    rw (k, whole, sym h) (regroup front v (values_at limit (count - (i + 1)) after)) in
    rw m (sym one ∙ so_far)

-- the bytes end before all values came: there are none
pub short_turn : (front : Listed Value) (limit count i : ℕ) (rest : Listed ℕ)
    (total : Option (Listed Value)) → i < count → rest ≡ []
    → with_front front (values_at limit (count - i) rest) ≡ total → None ≡ total
short_turn front limit count i rest total lt e so_far =
    let k : count - i ≡ suc (count - (i + 1)) = omega arith in
    let one : with_front front (values_at limit (count - i) rest) ≡ None = rw (k, e) refl in
    sym one ∙ so_far

-- no space stands before the next value: there are none
pub other_turn : (front : Listed Value) (limit count i b : ℕ) (rest behind : Listed ℕ)
    (total : Option (Listed Value)) → i < count → rest ≡ b ∷ behind → b ≢ 32
    → with_front front (values_at limit (count - i) rest) ≡ total → None ≡ total
other_turn front limit count i b rest behind total lt e ne so_far =
    let k : count - i ≡ suc (count - (i + 1)) = omega arith in
    let one : with_front front (values_at limit (count - i) rest) ≡ None =
    rw (k, e, ne_eqb b 32 ne) refl in
    sym one ∙ so_far

-- what stands next is no plain value: there are none
pub no_value_turn : (front : Listed Value) (limit count i b : ℕ) (rest behind : Listed ℕ)
    (total : Option (Listed Value)) → i < count → rest ≡ b ∷ behind → b ≡ 32
    → None ≡ plain_at limit behind
    → with_front front (values_at limit (count - i) rest) ≡ total → None ≡ total
no_value_turn front limit count i b rest behind total lt e space h so_far =
    let k : count - i ≡ suc (count - (i + 1)) = omega arith in
    let whole : rest ≡ 32 ∷ behind = e ∙ ap (λ (w : ℕ). w ∷ behind) space in
    let one : with_front front (values_at limit (count - i) rest) ≡ None =
    rw (k, whole, sym h) refl in
    sym one ∙ so_far

-- all values came, and no byte is left: these are they
pub last_turn : (front : Listed Value) (limit count i : ℕ) (rest : Listed ℕ)
    (total : Option (Listed Value)) → count ≤ i → length rest ≡ 0
    → with_front front (values_at limit (count - i) rest) ≡ total → Some front ≡ total
last_turn front limit count i [] total le e so_far =
    let k : count - i ≡ 0 = omega arith in
    let one : with_front front (values_at limit (count - i) []) ≡ Some front =
    rw k (ap (λ (w : Listed Value). Some w) (append-nil front)) in
    sym one ∙ so_far
last_turn front limit count i (b ∷ rest) total le e so_far = absurd (omega arith)

-- all values came, and bytes are left: there are none
pub long_turn : (front : Listed Value) (limit count i : ℕ) (rest : Listed ℕ)
    (total : Option (Listed Value)) → count ≤ i → 0 < length rest
    → with_front front (values_at limit (count - i) rest) ≡ total → None ≡ total
long_turn front limit count i [] total le lt so_far = absurd (omega arith)
long_turn front limit count i (b ∷ rest) total le lt so_far =
    let k : count - i ≡ 0 = omega arith in
    let one : with_front front (values_at limit (count - i) (b ∷ rest)) ≡ None = rw k refl in
    sym one ∙ so_far

pub ruleset values_facts = (value_turn, short_turn, other_turn, no_value_turn, last_turn, long_turn)
