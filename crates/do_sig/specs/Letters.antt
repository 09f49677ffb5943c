-- The letters of types and of qualifiers.
use Rattle.std.specs.Prelude.{◌≡◌, true, ℕ, ◌==◌, ◌&&◌, ◌||◌, Bool, false, nat_le, List, [], ◌∷◌}
use Rattle.std.specs.Prelude.{map, Option, Some, None, if◌then◌else◌}
use Rattle.do_sig.specs.declared.value_type.Scalar.{Scalar, TheVariants.{SignedChar, Short, Int}}
use Rattle.do_sig.specs.declared.value_type.Scalar.TheVariants.{Long, LongLong, UnsignedChar}
use Rattle.do_sig.specs.declared.value_type.Scalar.TheVariants.{UnsignedShort, UnsignedInt}
use Rattle.do_sig.specs.declared.value_type.Scalar.TheVariants.{UnsignedLong, UnsignedLongLong}
use Rattle.do_sig.specs.declared.value_type.Scalar.TheVariants.{Boolean, CString, Object, Class}
use Rattle.do_sig.specs.declared.value_type.Scalar.TheVariants.{Selector}

-- the letter of each type that is made of no others: c s i l q C S I L Q B * @ # :
abbrev pub letter_of : Scalar → ℕ
letter_of SignedChar = 99
letter_of Short = 115
letter_of Int = 105
letter_of Long = 108
letter_of LongLong = 113
letter_of UnsignedChar = 67
letter_of UnsignedShort = 83
letter_of UnsignedInt = 73
letter_of UnsignedLong = 76
letter_of UnsignedLongLong = 81
letter_of Boolean = 66
letter_of CString = 42
letter_of Object = 64
letter_of Class = 35
letter_of Selector = 58

-- the types that are made of no others
abbrev pub scalars : List Scalar
scalars =
    SignedChar ∷ Short ∷ Int ∷ Long ∷ LongLong
    ∷ UnsignedChar ∷ UnsignedShort ∷ UnsignedInt ∷ UnsignedLong ∷ UnsignedLongLong
    ∷ Boolean ∷ CString ∷ Object ∷ Class ∷ Selector ∷ []

-- the first of some types that has a letter
abbrev pub with_letter : List Scalar → ℕ → Option Scalar
with_letter [] b = None
with_letter (s ∷ ss) b = if b == letter_of s then Some s else with_letter ss b

-- the type of a letter, if it is the letter of one
abbrev pub scalar_of : ℕ → Option Scalar
scalar_of b = with_letter scalars b

-- a byte is among these
abbrev pub is_one_of : ℕ → List ℕ → Bool
is_one_of b [] = false
is_one_of b (c ∷ cs) = b == c || is_one_of b cs

-- a byte is the letter of a type
abbrev pub is_letter : ℕ → Bool
is_letter b = is_one_of b (map letter_of scalars)

-- a byte is the letter of this type
abbrev pub IsLetterOf : ℕ → Scalar → Type 0
IsLetterOf b s = (is_letter b ≡ true) × (scalar_of b ≡ Some s)

-- f d D b ( ? j A, and v and ^: runtimes know them, but none can stand within another type here
abbrev pub is_unsupported : ℕ → Bool
is_unsupported b =
    is_one_of b (102 ∷ 100 ∷ 68 ∷ 98 ∷ 40 ∷ 63 ∷ 106 ∷ 65 ∷ 118 ∷ 94 ∷ [])

-- V r n N o O R
abbrev pub is_qualifier : ℕ → Bool
is_qualifier b = is_one_of b (86 ∷ 114 ∷ 110 ∷ 78 ∷ 111 ∷ 79 ∷ 82 ∷ [])

-- a byte from 0 to 9
abbrev pub is_digit : ℕ → Bool
is_digit b = nat_le 48 b && nat_le b 57

-- a letter, an underscore or a dollar sign
abbrev pub is_name_letter : ℕ → Bool
is_name_letter b =
    (nat_le 65 b && nat_le b 90) || ((nat_le 97 b && nat_le b 122) || (b == 95 || b == 36))
