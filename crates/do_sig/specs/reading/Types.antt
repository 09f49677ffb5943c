-- How a type is read.
use Rattle.std.specs.Prelude.{ℕ, zero, suc, ◌+◌, ◌-◌, ◌*◌, ◌==◌, ◌&&◌, ◌||◌, not, Bool, true, false}
use Rattle.std.specs.Prelude.{nat_lt, nat_le, List, [], ◌∷◌, ◌++◌, length, Option, Some, None, Err}
use Rattle.std.specs.Prelude.{if◌then◌else◌}
use Rattle.do_grammar.specs.Reader.{Reader, short, done, and_then, mapped, byte_of, until, Step}
use Rattle.do_grammar.specs.Reader.{goes, leaves, fails, scan_to}
use Rattle.do_sig.specs.declared.fault.Kind.{Kind, TheVariants.{Unsupported, BadChar}}
use Rattle.do_sig.specs.declared.value_type.{Scalar.Scalar, ValueType.{ValueType, Array, Structure}}
use Rattle.do_sig.specs.{declared.value_type.ValueType.TheVariants.Simple, Letters.is_digit}
use Rattle.do_sig.specs.{Letters.{is_name_letter, scalar_of}, Blame.{begins_type, why_no_type}}

-- one digit more of a count up to 1,024 with no zero in front
abbrev pub count_step : ℕ → ℕ → Step ℕ Kind
count_step n b =
    if is_digit b
    then (if n == 0
    then fails BadChar
    else (if nat_le (n * 10 + (b - 48)) 1024
    then goes (n * 10 + (b - 48))
    else fails Unsupported))
    else leaves

-- a digit, and those behind it
abbrev pub count_at : Reader Kind ℕ
count_at = and_then (byte_of is_digit (λ b. BadChar)) (λ b. scan_to count_step (b - 48))

-- a name goes on with a byte: one letter more, a digit behind a letter, or a ? alone
abbrev pub goes_on_name : List ℕ → ℕ → Bool
goes_on_name [] b = is_name_letter b || b == 63
goes_on_name (c ∷ cs) b =
    (is_name_letter b || is_digit b) && (not (c == 63) && nat_lt (length (c ∷ cs)) 64)

-- a name is not empty
abbrev pub is_some_name : List ℕ → Bool
is_some_name [] = false
is_some_name (c ∷ cs) = true

-- the name of a structure, up to =
abbrev pub name_step : List ℕ → ℕ → Step (List ℕ) Kind
name_step s b =
    if goes_on_name s b
    then goes (s ++ b ∷ [])
    else (if b == 61 && is_some_name s
    then leaves
    else (if b == 125 then fails Unsupported else fails BadChar))

-- one byte, and no other
abbrev pub exactly : ℕ → Reader Kind ℕ
exactly c = byte_of (λ b. b == c) (λ b. BadChar)

-- behind [ and its count: one type and ]
abbrev pub array_at : Reader Kind ValueType → ℕ → Reader Kind ValueType
array_at r n = and_then r (λ t. mapped (λ b. Array n t) (exactly 93))

-- behind [: a count, one type and ]
abbrev pub counted_at : Reader Kind ValueType → Reader Kind ValueType
counted_at r = and_then count_at (array_at r)

-- behind { and its name: =, types and }
abbrev pub structure_at : Reader Kind ValueType → List ℕ → Reader Kind ValueType
structure_at r name = and_then (exactly 61) (λ b. mapped (λ ts. Structure name ts) (until 125 r))

-- behind {: a name, =, types and }
abbrev pub named_at : Reader Kind ValueType → Reader Kind ValueType
named_at r = and_then (scan_to name_step []) (structure_at r)

-- a type of one letter; a byte that is no letter and no bracket begins none
abbrev pub letter_at : Option Scalar → Reader Kind ValueType
letter_at (Some s) = done (Simple s)
letter_at None = λ bytes. Err short

-- what follows a byte that begins a type
abbrev pub body_at : Reader Kind ValueType → ℕ → Reader Kind ValueType
body_at r b =
    if b == 91 then counted_at r else (if b == 123 then named_at r else letter_at (scalar_of b))

-- a type, where this many more may be open
unfoldable pub type_at : ℕ → Reader Kind ValueType
type_at zero = and_then (byte_of (begins_type 0) (why_no_type 0)) (λ b. letter_at (scalar_of b))
type_at (suc d) =
    and_then (byte_of (begins_type (suc d)) (why_no_type (suc d))) (body_at (type_at d))
