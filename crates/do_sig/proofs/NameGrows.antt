-- A name that goes on with a byte is a name, and each name goes on byte by byte.
use Rattle.std.proofs.Common.{◌≡◌, ℕ, suc, ◌+◌, ◌<◌, Bool, true, false, ltb, List, [], ◌∷◌, ◌++◌}
use Rattle.std.proofs.Common.{length, refl, length-append, arith}
use Rattle.std.specs.{Prelude.{◌||◌, ◌&&◌, ◌==◌, not}, List.list_all}
use Rattle.std.proofs.lemmas.Bool.{lt-ltb, Decides.nat_tests}
use Rattle.do_sig.specs.Letters.{is_name_letter, is_digit}
use Rattle.do_sig.specs.{Types.{goes_in_name, is_structure_name}, reading.Types.goes_on_name}
use Rattle.do_sig.proofs.TestsPass.{both, both_pass, not_true, second_side, less_test}

-- nothing yet, or a name
abbrev pub IsNameSoFar : List ℕ → Type 0
IsNameSoFar [] = Unit {0}
IsNameSoFar (c ∷ cs) = is_structure_name (c ∷ cs) ≡ true

-- one byte more that goes in a name
pub all_push : (xs : List ℕ) (b : ℕ) → list_all goes_in_name xs ≡ true → goes_in_name b ≡ true
    → list_all goes_in_name (xs ++ b ∷ []) ≡ true
all_push [] b p q = both (goes_in_name b) true q refl
all_push (x ∷ xs) b p q =
    let c = both_pass (goes_in_name x) (list_all goes_in_name xs) p in
    both (goes_in_name x) (list_all goes_in_name (xs ++ b ∷ [])) c.0 (all_push xs b c.1 q)

-- a byte in the middle of a name goes in it
pub all_middle : (xs : List ℕ) (b : ℕ) (ys : List ℕ) → list_all goes_in_name (xs ++ b ∷ ys) ≡ true
    → goes_in_name b ≡ true
all_middle [] b ys p = (both_pass (goes_in_name b) (list_all goes_in_name ys) p).0
all_middle (x ∷ xs) b ys p =
    all_middle xs b ys (both_pass (goes_in_name x) (list_all goes_in_name (xs ++ b ∷ ys)) p).1

-- one byte that begins a name is one
pub first_letter : (s t : Bool) → (s || t) ≡ true → ((t && true) || (s && (true && true))) ≡ true
first_letter true true e = refl
first_letter true false e = refl
first_letter false true e = refl
first_letter false false e = absurd cc

-- a name with one byte more, with which it goes on, is a name
pub name_grows : (s : List ℕ) (b : ℕ) → IsNameSoFar s → goes_on_name s b ≡ true
    → is_structure_name (s ++ b ∷ []) ≡ true
name_grows [] b p e = first_letter (is_name_letter b) (b == 63) e
name_grows (c ∷ cs) b p e =
    let f = both_pass (is_name_letter b || is_digit b)
    (not (c == 63) && ltb (length (c ∷ cs)) 64) e in
    let g = both_pass (not (c == 63)) (ltb (length (c ∷ cs)) 64) f.1 in
    let no : (c == 63) ≡ false = not_true (c == 63) g.0 in
    let tail = is_name_letter c && (list_all goes_in_name cs && ltb (length cs) 64) in
    let none : ((c == 63) && (length cs == 0)) ≡ false = rw no refl in
    let h = both_pass (is_name_letter c) (list_all goes_in_name cs && ltb (length cs) 64)
    (second_side ((c == 63) && (length cs == 0)) tail none p) in
    let i = both_pass (list_all goes_in_name cs) (ltb (length cs) 64) h.1 in
    let len : length (cs ++ b ∷ []) ≡ length cs + 1 = length-append cs (b ∷ []) in
    let below = less_test (length (c ∷ cs)) 64 g.1 in
    let short : length (cs ++ b ∷ []) < 64 = omega (arith, len, below) in
    let rest = both (list_all goes_in_name (cs ++ b ∷ [])) (ltb (length (cs ++ b ∷ [])) 64)
    (all_push cs b i.0 f.0) (lt-ltb (length (cs ++ b ∷ [])) 64 short) in
    let all = both (is_name_letter c)
    (list_all goes_in_name (cs ++ b ∷ []) && ltb (length (cs ++ b ∷ [])) 64) h.0 rest in
    rw (no, all) refl

-- a letter is no ?
pub letter_is_no_question : (c : ℕ) → is_name_letter c ≡ true → (c == 63) ≡ false
letter_is_no_question c e = grind (arith, nat_tests)

-- what begins a name goes on with nothing
pub first_goes : (s t u v : Bool) → ((t && u) || (s && v)) ≡ true → (s || t) ≡ true
first_goes true t u v e = refl
first_goes false true u v e = refl
first_goes false false u v e = absurd cc

-- a name goes on with its next byte
pub name_goes_on : (s : List ℕ) (b : ℕ) (t : List ℕ) → is_structure_name (s ++ b ∷ t) ≡ true
    → goes_on_name s b ≡ true
name_goes_on [] b t e =
    first_goes (is_name_letter b) (b == 63) (length t == 0)
    (list_all goes_in_name t && ltb (length t) 64) e
name_goes_on (c ∷ cs) b t e =
    let len : length (cs ++ b ∷ t) ≡ length cs + suc (length t) = length-append cs (b ∷ t) in
    let some : (length (cs ++ b ∷ t) == 0) ≡ false =
    not_zero (length (cs ++ b ∷ t)) (omega arith) in
    let none : ((c == 63) && (length (cs ++ b ∷ t) == 0)) ≡ false =
    second_false (c == 63) (length (cs ++ b ∷ t) == 0) some in
    let tail = is_name_letter c
    && (list_all goes_in_name (cs ++ b ∷ t) && ltb (length (cs ++ b ∷ t)) 64) in
    let h = both_pass (is_name_letter c)
    (list_all goes_in_name (cs ++ b ∷ t) && ltb (length (cs ++ b ∷ t)) 64)
    (second_side ((c == 63) && (length (cs ++ b ∷ t) == 0)) tail none e) in
    let i = both_pass (list_all goes_in_name (cs ++ b ∷ t)) (ltb (length (cs ++ b ∷ t)) 64) h.1 in
    let below = less_test (length (cs ++ b ∷ t)) 64 i.1 in
    let short : length (c ∷ cs) < 64 = omega (arith, len, below) in
    let no = letter_is_no_question c h.0 in
    let room = lt-ltb (length (c ∷ cs)) 64 short in
    let tests : (not (c == 63) && ltb (length (c ∷ cs)) 64) ≡ true = rw (no, room) refl in
    both (is_name_letter b || is_digit b) (not (c == 63) && ltb (length (c ∷ cs)) 64)
    (all_middle cs b t i.0) tests
  where
    not_zero : (n : ℕ) → 0 < n → (n == 0) ≡ false
    not_zero n h = grind (arith, nat_tests)

    second_false : (a b : Bool) → b ≡ false → (a && b) ≡ false
    second_false true b h = h
    second_false false b h = refl

-- what begins a name is a byte
pub letter_or_question_small : (b : ℕ) → (is_name_letter b || b == 63) ≡ true → b < 256
letter_or_question_small b e = grind (arith, nat_tests)

-- what goes in a name is a byte
pub letter_or_digit_small : (b : ℕ) → (is_name_letter b || is_digit b) ≡ true → b < 256
letter_or_digit_small b e = grind (arith, nat_tests)

-- what a name goes on with is a byte
pub name_small : (s : List ℕ) (b : ℕ) → goes_on_name s b ≡ true → b < 256
name_small [] b e = letter_or_question_small b e
name_small (c ∷ cs) b e =
    letter_or_digit_small b
    (both_pass (is_name_letter b || is_digit b) (not (c == 63) && ltb (length (c ∷ cs)) 64) e).0
