-- Numbers and signed numbers in decimal digits, with no zero in front.
use Rattle.std.specs.{Option.option_map, Prelude.{ℤ, pos, negsuc, ℕ, ◌+◌, ◌-◌, ◌*◌, ◌≤◌, ◌==◌}}
use Rattle.std.specs.Prelude.{◌&&◌, nat_le, List, [], ◌∷◌, Option, Some, None, if◌then◌else◌}

-- the number that goes on with these digits, up to a bound
abbrev pub dec_from : ℕ → ℕ → List ℕ → Option ℕ
dec_from high n [] = Some n
dec_from high n (b ∷ bytes) =
    if (nat_le 48 b && nat_le b 57) && nat_le (n * 10 + (b - 48)) high then dec_from high
    (n * 10 + (b - 48)) bytes else None

-- the number, if it is at least so great
abbrev pub at_least : ℕ → Option ℕ → Option ℕ
at_least low None = None
at_least low (Some n) = if nat_le low n then Some n else None

-- zero, behind whose digit none stands
abbrev pub only_zero : ℕ → List ℕ → Option ℕ
only_zero low [] = at_least low (Some 0)
only_zero low (b ∷ bytes) = None

-- the number between two bounds that all the bytes spell
unfoldable pub dec_in : ℕ → ℕ → List ℕ → Option ℕ
dec_in low high [] = None
dec_in low high (b ∷ bytes) =
    if b == 48 then only_zero low bytes else at_least low (dec_from high 0 (b ∷ bytes))

-- each byte is a digit
abbrev pub AllDecimal : List ℕ → Type 0
AllDecimal [] = Unit {0}
AllDecimal (b ∷ bytes) = (48 ≤ b) × (b ≤ 57) × AllDecimal bytes

-- the number below zero of this size
abbrev pub minus : ℕ → ℤ
minus n = if n == 0 then pos 0 else negsuc (n - 1)

-- the signed number of 64 bits that all the bytes spell
unfoldable pub int_in : List ℕ → Option ℤ
int_in [] = None
int_in (b ∷ bytes) =
    if b == 45 then option_map minus (dec_in 1 9223372036854775808 bytes) else option_map (λ n.
    pos n) (dec_in 0 9223372036854775807 (b ∷ bytes))
