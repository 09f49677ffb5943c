-- Decimal numbers are read exactly.
use Rattle.std.proofs.Common.{◌≡◌, ◌≢◌, ℕ, ◌+◌, ◌-◌, ◌*◌, ◌/◌, ◌%◌, ◌<◌, ◌≤◌, ◌^◌, Bool, true}
use Rattle.std.proofs.Common.{false, cond, eqb, leb, List, [], ◌∷◌, ◌++◌, Option, Some, None, refl}
use Rattle.std.proofs.Common.{sym, ap, ◌∙◌, append_assoc, arith, inl, inr}
use Rattle.std.specs.{Prelude.◌&&◌, Fmt.decimal}
use Rattle.std.proofs.lemmas.Bool.{eqb-true, eqb-false, ne_eqb, leb-true, le-leb, cases_lt}
use Rattle.std.proofs.lemmas.{Bool.Decides.nat_tests, List.append-nil, Nat.div-mul-add}
use Rattle.std.proofs.lemmas.{Nat.mod-mul-add, Fmt.{decimal_digit, decimal_step, decimal_by_steps}}
use Rattle.do_grammar.proofs.texts.WordBytes.{some_is}
use Rattle.do_grammar.specs.Dec.{dec_from, at_least, only_zero, dec_in, AllDecimal}

-- a value behind a test means that the test passed
pub cond_some : {A : Type 0} (t : Bool) (o : Option A) (x : A) → cond t o None ≡ Some x
    → (t ≡ true) × (o ≡ Some x)
cond_some true o x e = (refl, e)
cond_some false o x e = absurd cc

-- a number that is let through is at least so great
at_least_some : (low : ℕ) (o : Option ℕ) (n : ℕ) → at_least low o ≡ Some n
    → (o ≡ Some n) × (low ≤ n)
at_least_some low None n e = absurd cc
at_least_some low (Some m) n e =
    let c = cond_some (leb low m) (Some m) n e in
    let same = some_is m n c.1 in
    (c.1, rw (← same) (leb-true low m c.0))

-- a byte that passes the test is a digit with which the number stays within its bound
digit_test : (high n b : ℕ) → ((leb 48 b && leb b 57) && leb (n * 10 + (b - 48)) high) ≡ true
    → (48 ≤ b) × (b ≤ 57) × (n * 10 + (b - 48) ≤ high)
digit_test high n b e =
    (grind (arith, nat_tests), grind (arith, nat_tests), grind (arith, nat_tests))

-- and such a digit passes
test_digit : (high n b : ℕ) → 48 ≤ b → b ≤ 57 → n * 10 + (b - 48) ≤ high
    → ((leb 48 b && leb b 57) && leb (n * 10 + (b - 48)) high) ≡ true
test_digit high n b p q r = grind (arith, nat_tests)

-- one more digit
pub decimal_more : (n b : ℕ) → 1 ≤ n → 48 ≤ b → b ≤ 57 → n * 10 + (b - 48) < 2 ^ 64
    → decimal (n * 10 + (b - 48)) ≡ decimal n ++ b ∷ []
decimal_more n b p q r fits =
    let d : b - 48 < 10 = omega arith in
    let high : (n * 10 + (b - 48)) / 10 ≡ n = div-mul-add n 10 (b - 48) d in
    let low : (n * 10 + (b - 48)) % 10 ≡ b - 48 = mod-mul-add n 10 (b - 48) d in
    let byte : 48 + (b - 48) ≡ b = omega arith in
    decimal_step (n * 10 + (b - 48)) (omega arith) fits
    ∙ ap (λ (m : ℕ). decimal m ++ (48 + (n * 10 + (b - 48)) % 10) ∷ []) high
    ∙ ap (λ (m : ℕ). decimal n ++ m ∷ []) (ap (λ (m : ℕ). 48 + m) low ∙ byte)

-- digits that go on with a number spell the longer one
from_takes : (high n : ℕ) (bytes : List ℕ) (m : ℕ) → high < 2 ^ 64 → 1 ≤ n → n ≤ high
    → dec_from high n bytes ≡ Some m → (decimal m ≡ decimal n ++ bytes) × (m ≤ high)
from_takes high n [] m fits p q e =
    let same = some_is n m e in
    (ap decimal (sym same) ∙ sym (append-nil (decimal n)), omega arith)
from_takes high n (b ∷ bytes) m fits p q e =
    let c = cond_some ((leb 48 b && leb b 57) && leb (n * 10 + (b - 48)) high)
    (dec_from high (n * 10 + (b - 48)) bytes) m e in
    let t = digit_test high n b c.0 in
    let r = from_takes high (n * 10 + (b - 48)) bytes m fits (omega (arith, t.0)) t.2 c.1 in (
      r.0 ∙ ap (λ (w : List ℕ). w ++ bytes) (decimal_more n b p t.0 t.1 (omega (arith, t.2)))
          ∙ append_assoc (decimal n) (b ∷ []) bytes,
      r.1,
    )

-- what is read is spelled so
pub dec_takes : (low high : ℕ) (bytes : List ℕ) (n : ℕ) → high < 2 ^ 64
    → dec_in low high bytes ≡ Some n → (bytes ≡ decimal n) × (low ≤ n) × (n ≤ high)
unfolding dec_in
dec_takes low high [] n fits e = absurd cc
dec_takes low high (b ∷ bytes) n fits e = go (eqb b 48) refl
  where
    zero_case : (rest : List ℕ) → b ≡ 48 → only_zero low rest ≡ Some n
        → (b ∷ rest ≡ decimal n) × (low ≤ n) × (n ≤ high)
    zero_case [] h e' =
        let c = at_least_some low (Some 0) n e' in
        let same = some_is 0 n c.0 in (
          ap (λ (w : ℕ). w ∷ []) h ∙ sym (decimal_digit 0 (omega arith))
              ∙ ap decimal same,
          c.1,
          omega arith,
        )
    zero_case (c ∷ rest) h e' = absurd cc

    other_case : b ≢ 48 → at_least low (dec_from high 0 (b ∷ bytes)) ≡ Some n
        → (b ∷ bytes ≡ decimal n) × (low ≤ n) × (n ≤ high)
    other_case h e' =
        let c = at_least_some low (dec_from high 0 (b ∷ bytes)) n e' in
        let d = cond_some ((leb 48 b && leb b 57) && leb (0 * 10 + (b - 48)) high)
        (dec_from high (0 * 10 + (b - 48)) bytes) n c.0 in
        let t = digit_test high 0 b d.0 in
        let p = t.0 in
        let q = t.1 in
        let r = from_takes high (0 * 10 + (b - 48)) bytes n fits (omega arith) t.2 d.1 in
        let one : decimal (0 * 10 + (b - 48)) ≡ b ∷ [] =
        decimal_digit (0 * 10 + (b - 48)) (omega arith)
        ∙ ap (λ (w : ℕ). w ∷ []) (omega arith) in
        (sym (r.0 ∙ ap (λ (w : List ℕ). w ++ bytes) one), c.1, r.1)

    go : (t : Bool) → eqb b 48 ≡ t → (b ∷ bytes ≡ decimal n) × (low ≤ n) × (n ≤ high)
    go true h = zero_case bytes (eqb-true b 48 h) (rw h at e)
    go false h = other_case (eqb-false b 48 h) (rw h at e)

-- ---- and what is spelled so is read

-- the number that goes on with more digits, if there is one
then_from : ℕ → Option ℕ → List ℕ → Option ℕ
then_from high None ys = None
then_from high (Some n) ys = dec_from high n ys

-- digits in two parts are read one part after the other
from_append : (high n : ℕ) (xs ys : List ℕ)
    → dec_from high n (xs ++ ys) ≡ then_from high (dec_from high n xs) ys
unfolding then_from
from_append high n [] ys = refl
from_append high n (b ∷ xs) ys =
    go ((leb 48 b && leb b 57) && leb (n * 10 + (b - 48)) high)
    (from_append high (n * 10 + (b - 48)) xs ys)
  where
    go : (t : Bool)
        → dec_from high (n * 10 + (b - 48)) (xs ++ ys)
        ≡ then_from high (dec_from high (n * 10 + (b - 48)) xs) ys
        → cond t (dec_from high (n * 10 + (b - 48)) (xs ++ ys)) None
        ≡ then_from high (cond t (dec_from high (n * 10 + (b - 48)) xs) None) ys
    go true h = h
    go false h = refl

-- more digits behind a number
then_some : (high n : ℕ) (ys : List ℕ) → then_from high (Some n) ys ≡ dec_from high n ys
unfolding then_from
then_some high n ys = refl

pub record Again (high n : ℕ) (ds : List ℕ) : Type 0 where
  pub reads : dec_from high 0 ds ≡ Some n
  pub first : ℕ
  pub others : List ℕ
  pub parts : ds ≡ first ∷ others
  pub no_zero : first ≢ 48

-- the digits of a number above 0 are read as this number
again_all : (high n : ℕ) → n < 2 ^ 64 → n ≤ high → 0 < n → Again high n (decimal n)
again_all high n fits le pos =
    decimal_by_steps (λ m ds. m ≤ high → 0 < m → Again high m ds) one more n fits le pos
  where
    one : (m : ℕ) → m < 10 → m ≤ high → 0 < m → Again high m ((48 + m) ∷ [])
    one m lt le pos =
        let value : 0 * 10 + (48 + m - 48) ≡ m = omega arith in
        record {
          reads = rw (test_digit high 0 (48 + m) (omega arith) (omega arith) (omega arith))
              (ap (λ (w : ℕ). Some w) value);
          first = 48 + m;
          others = [];
          parts = refl;
          no_zero = λ (e : 48 + m ≡ 48). omega arith;
        }

    more : (m : ℕ) (ds : List ℕ) → 10 ≤ m → (m / 10 ≤ high → 0 < m / 10 → Again high (m / 10) ds)
        → m ≤ high → 0 < m → Again high m (ds ++ ((48 + m % 10) ∷ []))
    more m ds ge again le pos =
        let a = again (omega arith) (omega arith) in
        let value : m / 10 * 10 + (48 + m % 10 - 48) ≡ m = omega arith in
        let step : dec_from high (m / 10) ((48 + m % 10) ∷ []) ≡ Some m =
        rw (test_digit high (m / 10) (48 + m % 10) (omega arith) (omega arith) (omega arith))
        (ap (λ (w : ℕ). Some w) value) in
        record {
          reads = from_append high 0 ds ((48 + m % 10) ∷ [])
              ∙ ap (λ (w : Option ℕ). then_from high w ((48 + m % 10) ∷ [])) a.reads
              ∙ then_some high (m / 10) ((48 + m % 10) ∷ []) ∙ step;
          first = a.first;
          others = a.others ++ ((48 + m % 10) ∷ []);
          parts = ap (λ (w : List ℕ). w ++ ((48 + m % 10) ∷ [])) a.parts;
          no_zero = a.no_zero;
        }

-- the digits of a number between the bounds are read as this number
pub dec_again : (low high n : ℕ) → high < 2 ^ 64 → low ≤ n → n ≤ high
    → dec_in low high (decimal n) ≡ Some n
unfolding dec_in
dec_again low high n fits p q =
    elim (cases_lt 0 n) [
      | inl pos ↦ let a = again_all high n (omega arith) q pos in
          ap (dec_in low high) a.parts
          ∙ rw (ne_eqb a.first 48 a.no_zero)
          (ap (at_least low) (ap (dec_from high 0) (sym a.parts) ∙ a.reads)
          ∙ rw (le-leb low n p) refl)
      | inr none ↦ let z : n ≡ 0 = omega arith in
          ap (λ (w : ℕ). dec_in low high (decimal w)) z
          ∙ ap (dec_in low high) (decimal_digit 0 (omega arith))
          ∙ rw (le-leb low 0 (omega arith)) (ap (λ (w : ℕ). Some w) (sym z))
    ]

-- digits behind digits are digits
AllDecimal-append : (xs ys : List ℕ) → AllDecimal xs → AllDecimal ys → AllDecimal (xs ++ ys)
AllDecimal-append [] ys p q = q
AllDecimal-append (x ∷ xs) ys p q = (p.0, p.1, AllDecimal-append xs ys p.2 q)

-- a number is spelled in digits
pub all_decimal : (n : ℕ) → n < 2 ^ 64 → AllDecimal (decimal n)
all_decimal n fits =
    decimal_by_steps (λ m ds. AllDecimal ds) (λ m lt. (omega arith, omega arith, tt))
    (λ m ds ge again. AllDecimal-append ds ((48 + m % 10) ∷ []) again (
      omega arith,
      omega arith,
      tt,
    )) n fits
