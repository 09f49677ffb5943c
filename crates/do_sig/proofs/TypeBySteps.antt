-- The grammar of a type as it is read: the steps of reading lead from its first byte to its end.
use Rattle.std.specs.Prelude.{ℕ, zero, suc, ◌-◌, ◌==◌, List, [], Option, Some, None}
use Rattle.do_grammar.specs.Forms.{Then, Done, Byte, Mapped, Either, Scans, Untils}
use Rattle.do_sig.specs.declared.value_type.{Scalar.Scalar, ValueType.{ValueType, Array, Structure}}
use Rattle.do_sig.specs.declared.value_type.ValueType.TheVariants.{Simple}
use Rattle.do_sig.specs.{Letters.{is_digit, scalar_of}, Blame.begins_type}
use Rattle.do_sig.specs.reading.Types.{count_step, name_step}

-- one byte
abbrev pub Exactly : ℕ → List ℕ → ℕ → Type 0
Exactly c = Byte (λ b. b == c)

module _ (T : List ℕ → ValueType → Type 0) where
  -- behind [ and a count: one type and ]
  abbrev pub ArrayRest : ℕ → List ℕ → ValueType → Type 0
  ArrayRest n = Then T (λ t. Mapped (λ b. Array n t) (Exactly 93))

  -- behind [: a count, one type and ]
  abbrev pub Counted : List ℕ → ValueType → Type 0
  Counted = Then (Byte is_digit) (λ b. Scans count_step ArrayRest (b - 48))

  -- behind { and a name: =, types and }
  abbrev pub StructureRest : List ℕ → List ℕ → ValueType → Type 0
  StructureRest name = Then (Exactly 61) (λ b. Mapped (λ ts. Structure name ts) (Untils 125 T))

  -- behind {: a name, =, types and }
  abbrev pub Named : List ℕ → ValueType → Type 0
  Named = Scans name_step StructureRest []

-- behind a letter: nothing
abbrev pub LetterRest : Option Scalar → List ℕ → ValueType → Type 0
LetterRest (Some s) text x = Done (Simple s) text x
LetterRest None text x = ⊥

-- what stands behind the first byte of a type
abbrev pub Body : (List ℕ → ValueType → Type 0) → ℕ → List ℕ → ValueType → Type 0
Body T b = Either (b == 91) (Counted T) (Either (b == 123) (Named T) (LetterRest (scalar_of b)))

-- a type, where this many more may be open
abbrev pub ByStep : ℕ → List ℕ → ValueType → Type 0
ByStep zero = Then (Byte (begins_type 0)) (λ b. LetterRest (scalar_of b))
ByStep (suc d) = Then (Byte (begins_type (suc d))) (Body (ByStep d))
