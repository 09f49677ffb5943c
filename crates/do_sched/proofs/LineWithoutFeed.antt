-- No line of a schedule has a line feed in it.
use Rattle.std.proofs.Common.{◌≡◌, ◌≢◌, ℕ, ◌+◌, ◌≤◌, ◌<◌, ◌/◌, ◌%◌, ◌^◌, Bool, true, false, cond}
use Rattle.std.proofs.Common.{List as Listed, [], ◌∷◌, ◌++◌, refl, sym, ap, subst, ◌∙◌, arith}
use Rattle.std.specs.{Prelude.{codes, not, nat_lt, ◌==◌}, List.{flat_map, AllByRecursion, list_all}}
use Rattle.std.{specs.Fmt.decimal, proofs.lemmas.Bool.Decides.nat_tests}
use Rattle.do_base.specs.declared.values.value.Value.{Value}
use Rattle.do_grammar.specs.{Words.Without, Quoted.{is_plain, hex_digit, quoted_byte, quoted}}
use Rattle.do_grammar.proofs.texts.WordBytes.{Without-passes, Without-append}
use Rattle.do_grammar.proofs.texts.NameBytes.{Without-selector}
use Rattle.do_grammar.proofs.texts.IntExact.{Without-decimal, Without-signed}
use Rattle.do_sched.specs.declared.line.Line.{Line, TheVariants.{Start, Run, Take, Close, Lose}}
use Rattle.do_sched.specs.declared.{line.Line.TheVariants.{Timeout, Check}, version.Version.Version}
use Rattle.do_sched.specs.{declared.version.Version.TheVariants.{First, Second}, Value.value_text}
use Rattle.do_sched.specs.{Version.{header, longest}, Spelling.{spaced_value, number_pair}}
use Rattle.do_sched.specs.{Spelling.line_spelling, Good.{IsPlain, nil, number, text, IsLineOf}}
use Rattle.do_sched.proofs.ValuesExact.{value_text-Nil, value_text-Num, value_text-Text}

-- a text that a test finds without a line feed has none
feed_free : (bytes : Listed ℕ) → list_all (λ b. not (b == 10)) bytes ≡ true → Without 10 bytes
feed_free bytes h = Without-passes (λ b. not (b == 10)) 10 bytes refl h

-- a byte that stands for itself is none
plain_no_feed : (b : ℕ) → is_plain b ≡ true → b ≢ 10
plain_no_feed b h = λ (e : b ≡ 10). grind (arith, nat_tests)

-- nor is a digit
digit_no_feed : (n : ℕ) → hex_digit n ≢ 10
digit_no_feed n = go (nat_lt n 10)
  where
    go : (t : Bool) → cond t (48 + n) (87 + n) ≢ 10
    go true = λ (e : 48 + n ≡ 10). omega arith
    go false = λ (e : 87 + n ≡ 10). omega arith

-- a byte in quotes has none in its spelling
byte_free : (b : ℕ) → Without 10 (quoted_byte b)
byte_free b = go (is_plain b) refl
  where
    go : (t : Bool) → is_plain b ≡ t → Without 10 (quoted_byte b)
    go true h = rw h (plain_no_feed b h, tt)
    go false h =
        rw h (
          λ (e : ◌≡◌ {A = ℕ} 92 10). omega arith,
          (digit_no_feed (b / 16), (digit_no_feed (b % 16), tt)),
        )

-- nor has a text in quotes
inside_free : (bytes : Listed ℕ) → Without 10 (flat_map quoted_byte bytes)
inside_free [] = tt
inside_free (b ∷ bytes) =
    Without-append 10 (quoted_byte b) (flat_map quoted_byte bytes) (byte_free b) (inside_free bytes)

quoted_free : (bytes : Listed ℕ) → Without 10 (quoted bytes)
quoted_free bytes = (
  λ (e : 34 ≡ 10). omega arith,
  Without-append 10 (flat_map quoted_byte bytes) (34 ∷ []) (inside_free bytes) (
    λ (e : 34 ≡ 10). omega arith,
    tt,
  ),
)

-- nor has a plain value
value_free : (limit : ℕ) (v : Value) → IsPlain limit v → Without 10 (value_text v)
value_free limit v (nil same) =
    subst (Without 10) (sym (ap value_text same ∙ value_text-Nil)) (feed_free (codes "nil") refl)
value_free limit v (number n same fits) =
    subst (Without 10) (sym (ap value_text same ∙ value_text-Num n))
    (Without-signed 10 n (omega arith) fits)
value_free limit v (text bytes same within small) =
    subst (Without 10) (sym (ap value_text same ∙ value_text-Text bytes)) (quoted_free bytes)

-- nor have plain values
values_free : (limit : ℕ) (vs : Listed Value) → AllByRecursion (IsPlain limit) vs
    → Without 10 (flat_map spaced_value vs)
values_free limit [] h = tt
values_free limit (v ∷ vs) h = (
  λ (e : 32 ≡ 10). omega arith,
  Without-append 10 (value_text v) (flat_map spaced_value vs) (value_free limit v h.0)
      (values_free limit vs h.1),
)

-- nor have two numbers with a space between
pair_free : (p n : ℕ) → p ≤ 65535 → n < 2 ^ 64 → Without 10 (number_pair p n)
pair_free p n h k =
    Without-append 10 (decimal p) (32 ∷ decimal n)
    (Without-decimal 10 p (omega arith) (omega arith)) (
      λ (e : 32 ≡ 10). omega arith,
      Without-decimal 10 n (omega arith) k,
    )

-- a word before a text without one
worded : (word rest : Listed ℕ) → list_all (λ b. not (b == 10)) word ≡ true → Without 10 rest
    → Without 10 (word ++ rest)
worded word rest h k = Without-append 10 word rest (feed_free word h) k

-- a node's number before a text without one
numbered : (node : ℕ) (rest : Listed ℕ) → node ≤ 65535 → Without 10 rest
    → Without 10 (decimal node ++ 32 ∷ rest)
numbered node rest h k =
    Without-append 10 (decimal node) (32 ∷ rest)
    (Without-decimal 10 node (omega arith) (omega arith)) (λ (e : 32 ≡ 10). omega arith, k)

-- nor has the first line of a schedule
pub header_free : (version : Version) → Without 10 (header version)
header_free First = feed_free (codes "schedule 1") refl
header_free Second = feed_free (codes "schedule 2") refl

-- no line of a schedule has one in its spelling
pub no_feed : (version : Version) (l : Line) → IsLineOf version l → Without 10 (line_spelling l)
no_feed version (Start node selector values) h =
    worded (codes "start ") (decimal node ++ 32 ∷ (selector ++ flat_map spaced_value values)) refl
    (numbered node (selector ++ flat_map spaced_value values) h.at_port.1
    (Without-append 10 selector (flat_map spaced_value values)
    (Without-selector 10 selector refl h.selects)
    (values_free (longest version) values h.plain)))
no_feed version (Run p c) h =
    let most = h.2 in
    worded (codes "run ") (number_pair p c) refl (pair_free p c h.0.1 (omega arith))
no_feed version (Take p q) h =
    let most = h.1.1 in
    worded (codes "take ") (number_pair p q) refl (pair_free p q h.0.1 (omega arith))
no_feed version (Close p q) h =
    let most = h.1.1 in
    worded (codes "close ") (number_pair p q) refl (pair_free p q h.0.1 (omega arith))
no_feed version (Lose p q k) h =
    worded (codes "lose ") (decimal p ++ 32 ∷ number_pair q k) refl
    (numbered p (number_pair q k) h.0.1 (pair_free q k h.1.1 h.2))
no_feed version (Timeout p) h =
    let most = h.1.1 in
    worded (codes "timeout ") (decimal p) refl (Without-decimal 10 p (omega arith) (omega arith))
no_feed version Check h = feed_free (codes "check") refl
