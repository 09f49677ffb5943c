-- What the next byte of a count gives.
use Rattle.std.proofs.Common.{◌≡◌, ◌≢◌, ℕ, suc, ◌+◌, ◌-◌, ◌*◌, ◌<◌, ◌≤◌, List, ◌∷◌, length, Err}
use Rattle.std.proofs.{Common.{refl, arith}, lemmas.Bool.Decides.nat_tests}
use Rattle.do_grammar.specs.Reader.{bad, goes, leaves, fails, scan_to}
use Rattle.do_sig.specs.declared.fault.Kind.TheVariants.{Unsupported, BadChar}
use Rattle.do_sig.specs.reading.Types.{count_step, count_at}
use Rattle.do_sig.proofs.DigitTests.{no_digit_below, no_digit_above, is_one_digit}

-- a byte below the digits ends the count
pub low_leaves : (n b : ℕ) → b < 48 → count_step n b ≡ leaves
low_leaves n b h = grind (arith, nat_tests)

-- so does one above them
pub high_leaves : (n b : ℕ) → 57 < b → count_step n b ≡ leaves
high_leaves n b h = grind (arith, nat_tests)

-- no digit stands behind a zero
pub zero_fails : (n b : ℕ) → 48 ≤ b → b ≤ 57 → n ≡ 0 → count_step n b ≡ fails BadChar
zero_fails n b p q h = grind (arith, nat_tests)

-- no digit leads past 1,024
pub past_fails : (n b : ℕ) → 48 ≤ b → b ≤ 57 → n ≢ 0 → 1024 < n * 10 + (b - 48)
    → count_step n b ≡ fails Unsupported
past_fails n b p q r h = grind (arith, nat_tests)

-- any other digit goes on
pub digit_goes : (n b : ℕ) → 48 ≤ b → b ≤ 57 → n ≢ 0 → n * 10 + (b - 48) ≤ 1024
    → count_step n b ≡ goes (n * 10 + (b - 48))
digit_goes n b p q r h = grind (arith, nat_tests)

-- a count does not begin below the digits
pub count_low : (b : ℕ) (rest : List ℕ) → b < 48
    → count_at (b ∷ rest) ≡ Err (bad BadChar (suc (length rest)))
count_low b rest h = let e = no_digit_below b h in rw e refl

-- nor above them
pub count_high : (b : ℕ) (rest : List ℕ) → 57 < b
    → count_at (b ∷ rest) ≡ Err (bad BadChar (suc (length rest)))
count_high b rest h = let e = no_digit_above b h in rw e refl

-- a count is its first digit and the others
pub count_digit : (b : ℕ) (rest : List ℕ) → 48 ≤ b → b ≤ 57
    → count_at (b ∷ rest) ≡ scan_to count_step (b - 48) rest
count_digit b rest h k = let e = is_one_digit b h k in rw e refl

pub ruleset counting = (
  low_leaves,
  high_leaves,
  zero_fails,
  past_fails,
  digit_goes,
  count_low,
  count_high,
  count_digit,
)
