-- Which types there are, and which text spells which of them.
use Rattle.std.specs.Prelude.{◌≡◌, ℕ, zero, suc, ◌==◌, ◌&&◌, ◌||◌, Bool, true, false, nat_le}
use Rattle.std.specs.{Prelude.{nat_lt, List, [], ◌∷◌, ◌++◌, length}, List.{flat_map, list_all}}
use Rattle.std.specs.Fmt.{decimal}
use Rattle.do_sig.specs.declared.value_type.ValueType.{ValueType, fold-ValueType}
use Rattle.do_sig.specs.declared.value_type.ValueType.TheOpen.{ValueType-F, Simple, Array}
use Rattle.do_sig.specs.declared.value_type.ValueType.TheOpen.{Structure}
use Rattle.do_sig.specs.Letters.{letter_of, is_name_letter, is_digit}

-- a letter, [count type], or {name=types}; a count is a decimal number
abbrev pub spelling_step : ValueType-F (List ℕ) → List ℕ
spelling_step (Simple s) = letter_of s ∷ []
spelling_step (Array count item) = 91 ∷ (decimal count ++ (item ++ 93 ∷ []))
spelling_step (Structure name members) =
    123 ∷ (name ++ 61 ∷ (flat_map (λ m. m) members ++ 125 ∷ []))

-- the one spelling of a type
abbrev pub type_spelling : ValueType → List ℕ
type_spelling = fold-ValueType (List ℕ) spelling_step

-- a letter, a digit, an underscore or a dollar sign
abbrev pub goes_in_name : ℕ → Bool
goes_in_name b = is_name_letter b || is_digit b

-- the name of a structure: a ? alone, or at most 64 letters and digits, the first no digit
abbrev pub is_structure_name : List ℕ → Bool
is_structure_name [] = false
is_structure_name (b ∷ bytes) =
    (b == 63 && length bytes == 0)
    || (is_name_letter b && (list_all goes_in_name bytes && nat_lt (length bytes) 64))

-- counts up to 1,024, names of structures, and no more types open than may be
abbrev pub within_step : ValueType-F (ℕ → Bool) → ℕ → Bool
within_step (Simple s) depth = true
within_step (Array count item) zero = false
within_step (Array count item) (suc depth) = nat_le count 1024 && item depth
within_step (Structure name members) zero = false
within_step (Structure name members) (suc depth) =
    is_structure_name name && list_all (λ member. member depth) members

-- the profile has a type where this many more may be open
abbrev pub is_within : ValueType → ℕ → Bool
is_within = fold-ValueType (ℕ → Bool) within_step

-- a text spells a type that may stand where this many more may be open
pub record IsType (depth : ℕ) (text : List ℕ) (t : ValueType) : Type 0 where
  pub spelled : text ≡ type_spelling t
  pub within : is_within t depth ≡ true
