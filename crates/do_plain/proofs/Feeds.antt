-- No name, value or shown line has a line feed in it, but for a selector that has one.
use Rattle.std.proofs.Common.{◌≡◌, ◌≢◌, ◌==◌, ◌/◌, ◌%◌, ◌+◌, ℕ, ℤ, pos, negsuc, zero, suc, Bool}
use Rattle.std.proofs.Common.{true, false, cond, List as Listed, [], ◌∷◌, ◌++◌, map, refl, sym}
use Rattle.std.{proofs.Common.{subst, arith, rules}, specs.Prelude.{codes, nat_lt, not}}
use Rattle.std.specs.{List.{AllByRecursion, flat_map, list_all}, Fmt.{decimal, digit_glyph, digits}}
use Rattle.std.{specs.Fmt.{digits_onto, signed_decimal}, proofs.lemmas.Bool.Decides.nat_tests}
use Rattle.do_base.specs.declared.values.value.Value.{Value, List, the_lemmas, TheVariants.Obj}
use Rattle.do_base.specs.{names.Names.ObjectName, values.Induction.value_induction}
use Rattle.do_grammar.specs.{Quoted.{hex_digit, is_plain, quoted, quoted_byte}, Words.Without}
use Rattle.do_grammar.proofs.texts.WordBytes.{Without-append, Without-passes}
use Rattle.do_sched.specs.Value.{between, object_name, spaced, value_text}
use Rattle.do_sched.proofs.ValuesExact.{value_text-Nil, value_text-Num, value_text-Text}

-- ---- words

-- a text that a test finds without a line feed has none
pub literal : (a : Listed ℕ) → list_all (λ b. not (b == 10)) a ≡ true → Without 10 a
literal a h = Without-passes (λ b. not (b == 10)) 10 a refl h

-- nor has it before another that has none
pub worded : (word rest : Listed ℕ) → list_all (λ b. not (b == 10)) word ≡ true →
    Without 10 rest → Without 10 (word ++ rest)
worded word rest h k = Without-append 10 word rest (literal word h) k

-- ---- numbers

-- no digit is a line feed
glyph_no_feed : (d : ℕ) → digit_glyph false d ≢ 10
glyph_no_feed d = go (nat_lt d 10)
  where
    go : (t : Bool) → cond t (48 + d) (87 + d) ≢ 10
    go true = λ (e : 48 + d ≡ 10). omega arith
    go false = λ (e : 87 + d ≡ 10). omega arith

-- nor does one stand before what has none
digits_free : (k n : ℕ) (behind : Listed ℕ) → Without 10 behind →
    Without 10 (digits_onto k 10 false n behind)
digits_free zero n behind free = free
digits_free (suc k) n behind free =
    go (n / 10 == 0) (digits_free k (n / 10) (digit_glyph false (n % 10) ∷ behind)
    (glyph_no_feed (n % 10), free))
  where
    go : (t : Bool) → Without 10 (digits_onto k 10 false (n / 10)
        (digit_glyph false (n % 10) ∷ behind)) →
        Without 10 (cond t (digit_glyph false (n % 10) ∷ behind)
        (digits_onto k 10 false (n / 10) (digit_glyph false (n % 10) ∷ behind)))
    go true more = (glyph_no_feed (n % 10), free)
    go false more = more

-- a number has none
pub decimal_free : (n : ℕ) → Without 10 (decimal n)
unfolding digits
decimal_free n = digits_free 64 n [] tt

-- nor has one with a sign
signed_free : (z : ℤ) → Without 10 (signed_decimal z)
signed_free (pos n) = decimal_free n
signed_free (negsuc n) = (λ (e : ◌≡◌ {A = ℕ} 45 10). omega arith, decimal_free (suc n))

-- nor has a text behind a number and a space
pub numbered : (n : ℕ) (rest : Listed ℕ) → Without 10 rest →
    Without 10 (decimal n ++ 32 ∷ rest)
numbered n rest h =
    Without-append 10 (decimal n) (32 ∷ rest) (decimal_free n)
    (λ (e : ◌≡◌ {A = ℕ} 32 10). omega arith, h)

-- nor has the name of an object
pub object_free : (o : ObjectName) → Without 10 (object_name o)
object_free o = (
  λ (e : ◌≡◌ {A = ℕ} 35 10). omega arith,
  Without-append 10 (decimal o.node) (46 ∷ decimal o.serial) (decimal_free o.node)
      (λ (e : ◌≡◌ {A = ℕ} 46 10). omega arith, decimal_free o.serial),
)

-- ---- texts in quotes

-- no digit of sixteen is a line feed
hex_no_feed : (n : ℕ) → hex_digit n ≢ 10
hex_no_feed n = go (nat_lt n 10)
  where
    go : (t : Bool) → cond t (48 + n) (87 + n) ≢ 10
    go true = λ (e : 48 + n ≡ 10). omega arith
    go false = λ (e : 87 + n ≡ 10). omega arith

-- a byte in quotes has none in its spelling
byte_free : (b : ℕ) → Without 10 (quoted_byte b)
byte_free b = go (is_plain b) refl
  where
    go : (t : Bool) → is_plain b ≡ t → Without 10 (quoted_byte b)
    go true h = rw h (λ (e : b ≡ 10). grind (arith, nat_tests), tt)
    go false h =
        rw h (
          λ (e : ◌≡◌ {A = ℕ} 92 10). omega arith,
          (hex_no_feed (b / 16), (hex_no_feed (b % 16), tt)),
        )

-- nor have several
inside_free : (bytes : Listed ℕ) → Without 10 (flat_map quoted_byte bytes)
inside_free [] = tt
inside_free (b ∷ bytes) =
    Without-append 10 (quoted_byte b) (flat_map quoted_byte bytes) (byte_free b)
    (inside_free bytes)

-- nor has a text in quotes
pub quoted_free : (bytes : Listed ℕ) → Without 10 (quoted bytes)
quoted_free bytes = (
  λ (e : ◌≡◌ {A = ℕ} 34 10). omega arith,
  Without-append 10 (flat_map quoted_byte bytes) (34 ∷ []) (inside_free bytes)
      (λ (e : ◌≡◌ {A = ℕ} 34 10). omega arith, tt),
)

-- ---- values

-- an object is spelled by its name
value_text-Obj : (o : ObjectName) → value_text (Obj o) ≡ object_name o
value_text-Obj o = search (rules, the_lemmas)

-- a list is spelled by what its items are
value_text-List : (vs : Listed Value) →
    value_text (List vs) ≡ 91 ∷ between (map value_text vs) ++ 93 ∷ []
value_text-List vs = search (rules, the_lemmas)

-- a value has none in its spelling
abbrev IsFree : Value → Type 0
IsFree v = Without 10 (value_text v)

-- nor has a list, if its items have none
list_free : (vs : Listed Value) → AllByRecursion IsFree vs → IsFree (List vs)
list_free vs h =
    subst (Without 10) (sym (value_text-List vs)) (
      λ (e : ◌≡◌ {A = ℕ} 91 10). omega arith,
      Without-append 10 (between (map value_text vs)) (93 ∷ []) (items vs h)
          (λ (e : ◌≡◌ {A = ℕ} 93 10). omega arith, tt),
    )
  where
    more : (vs : Listed Value) → AllByRecursion IsFree vs →
        Without 10 (spaced (map value_text vs))
    more [] h = tt
    more (v ∷ vs) h = (
      λ (e : ◌≡◌ {A = ℕ} 32 10). omega arith,
      Without-append 10 (value_text v) (spaced (map value_text vs)) h.0 (more vs h.1),
    )

    items : (vs : Listed Value) → AllByRecursion IsFree vs →
        Without 10 (between (map value_text vs))
    items [] h = tt
    items (v ∷ vs) h =
        Without-append 10 (value_text v) (spaced (map value_text vs)) h.0 (more vs h.1)

-- no value has one
pub value_free : (v : Value) → Without 10 (value_text v)
value_free =
    value_induction IsFree
    (subst (Without 10) (sym value_text-Nil) (literal (codes "nil") refl))
    (λ n. subst (Without 10) (sym (value_text-Num n)) (signed_free n))
    (λ s. subst (Without 10) (sym (value_text-Text s)) (quoted_free s))
    (λ o. subst (Without 10) (sym (value_text-Obj o)) (object_free o))
    list_free
