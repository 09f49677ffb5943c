-- What is left behind a size or offset.
use Rattle.std.proofs.Common.{◌≡◌, ◌≢◌, ℕ, suc, ◌<◌, ◌≤◌, List, [], ◌∷◌, length, Ok, Err, refl}
use Rattle.std.proofs.lemmas.Bool.{ne_eqb}
use Rattle.do_grammar.specs.Reader.{short, bad}
use Rattle.do_sig.specs.{declared.fault.Kind.TheVariants.BadChar, Offsets.{fresh, digits}}
use Rattle.do_sig.specs.reading.Offsets.{skip}
use Rattle.do_sig.proofs.DigitTests.{no_digit_below, no_digit_above, is_one_digit}

-- behind digits nothing is left of nothing
pub skip_end : (s : List ℕ) → s ≡ [] → skip digits s ≡ Ok s
skip_end s e = rw e refl

-- digits end at a byte below them
pub skip_low : (b : ℕ) (rest : List ℕ) → b < 48 → skip digits (b ∷ rest) ≡ Ok (b ∷ rest)
skip_low b rest h = let e = no_digit_below b h in rw e refl

-- digits end at a byte above them
pub skip_high : (b : ℕ) (rest : List ℕ) → 57 < b → skip digits (b ∷ rest) ≡ Ok (b ∷ rest)
skip_high b rest h = let e = no_digit_above b h in rw e refl

-- a digit more is passed over
pub skip_digit : (b : ℕ) (rest : List ℕ) → 48 ≤ b → b ≤ 57
    → skip digits (b ∷ rest) ≡ skip digits rest
skip_digit b rest h k = let e = is_one_digit b h k in rw e refl

-- nothing is left of nothing
pub fresh_end : (s : List ℕ) → s ≡ [] → skip fresh s ≡ Ok s
fresh_end s e = rw e refl

-- with no sign in front, it is the digits that are passed over
pub no_sign : (b : ℕ) (rest : List ℕ) → b ≢ 43 → b ≢ 45
    → skip fresh (b ∷ rest) ≡ skip digits (b ∷ rest)
no_sign b rest p q = let e = ne_eqb b 43 p in let f = ne_eqb b 45 q in rw (e, f) refl

-- nothing may not stand behind +
pub plus_end : (s : List ℕ) → s ≡ [] → skip fresh (43 ∷ s) ≡ Err short
plus_end s e = rw e refl

-- nothing may not stand behind -
pub minus_end : (s : List ℕ) → s ≡ [] → skip fresh (45 ∷ s) ≡ Err short
minus_end s e = rw e refl

-- a digit behind + is passed over
pub plus_digit : (d : ℕ) (rest : List ℕ) → 48 ≤ d → d ≤ 57
    → skip fresh (43 ∷ d ∷ rest) ≡ skip digits rest
plus_digit d rest h k = let e = is_one_digit d h k in rw e refl

-- a digit behind - is passed over
pub minus_digit : (d : ℕ) (rest : List ℕ) → 48 ≤ d → d ≤ 57
    → skip fresh (45 ∷ d ∷ rest) ≡ skip digits rest
minus_digit d rest h k = let e = is_one_digit d h k in rw e refl

-- no byte below the digits stands behind +
pub plus_low : (d : ℕ) (rest : List ℕ) → d < 48
    → skip fresh (43 ∷ d ∷ rest) ≡ Err (bad BadChar (suc (length rest)))
plus_low d rest h = let e = no_digit_below d h in rw e refl

-- no byte above the digits stands behind +
pub plus_high : (d : ℕ) (rest : List ℕ) → 57 < d
    → skip fresh (43 ∷ d ∷ rest) ≡ Err (bad BadChar (suc (length rest)))
plus_high d rest h = let e = no_digit_above d h in rw e refl

-- no byte below the digits stands behind -
pub minus_low : (d : ℕ) (rest : List ℕ) → d < 48
    → skip fresh (45 ∷ d ∷ rest) ≡ Err (bad BadChar (suc (length rest)))
minus_low d rest h = let e = no_digit_below d h in rw e refl

-- no byte above the digits stands behind -
pub minus_high : (d : ℕ) (rest : List ℕ) → 57 < d
    → skip fresh (45 ∷ d ∷ rest) ≡ Err (bad BadChar (suc (length rest)))
minus_high d rest h = let e = no_digit_above d h in rw e refl

pub ruleset offset_steps = (
  skip_end,
  skip_low,
  skip_high,
  skip_digit,
  fresh_end,
  no_sign,
  plus_end,
  minus_end,
  plus_digit,
  minus_digit,
  plus_low,
  plus_high,
  minus_low,
  minus_high,
)
