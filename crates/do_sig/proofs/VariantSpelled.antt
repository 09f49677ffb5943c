-- How each variant of a type is spelled, and where it may stand.
use Rattle.std.proofs.Common.{◌≡◌, ℕ, List, [], ◌∷◌, ◌++◌, map, rules}
use Rattle.std.specs.{List.flat_map, Fmt.decimal}
use Rattle.do_sig.specs.declared.value_type.Scalar.{Scalar}
use Rattle.do_sig.specs.declared.value_type.ValueType.{ValueType, Array, Structure, the_lemmas}
use Rattle.do_sig.specs.declared.value_type.ValueType.{TheVariants.Simple, TheOpen.ValueType-F}
use Rattle.do_sig.specs.{Letters.letter_of, Types.{type_spelling, within_step, is_within}}

-- a type of one letter is spelled by it
pub spelling-Simple : (s : Scalar) → type_spelling (Simple s) ≡ letter_of s ∷ []
spelling-Simple s = search (rules, the_lemmas)

-- an array is spelled by its count and its type
pub spelling-Array : (n : ℕ) (t : ValueType)
    → type_spelling (Array n t) ≡ 91 ∷ (decimal n ++ (type_spelling t ++ 93 ∷ []))
spelling-Array n t = search (rules, the_lemmas)

-- a structure is spelled by its name and its types
pub spelling-Structure : (name : List ℕ) (ts : List ValueType)
    → type_spelling (Structure name ts)
    ≡ 123 ∷ (name ++ 61 ∷ (flat_map (λ m. m) (map type_spelling ts) ++ 125 ∷ []))
spelling-Structure name ts = search (rules, the_lemmas)

-- a type of one letter may stand anywhere
pub within-Simple : (s : Scalar) → is_within (Simple s) ≡ within_step (ValueType-F.Simple s)
within-Simple s = search (rules, the_lemmas)

-- an array may stand where its count and its type may
pub within-Array : (n : ℕ) (t : ValueType)
    → is_within (Array n t) ≡ within_step (ValueType-F.Array n (is_within t))
within-Array n t = search (rules, the_lemmas)

-- a structure may stand where its name and its types may
pub within-Structure : (name : List ℕ) (ts : List ValueType)
    → is_within (Structure name ts) ≡ within_step (ValueType-F.Structure name (map is_within ts))
within-Structure name ts = search (rules, the_lemmas)
