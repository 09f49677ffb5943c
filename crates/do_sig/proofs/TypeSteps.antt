-- What the first byte of a type gives.
use Rattle.std.proofs.Common.{◌≡◌, ℕ, zero, suc, ◌-◌, ◌<◌, true, false, eqb, List, [], ◌∷◌, length}
use Rattle.std.proofs.{Common.{Some, Ok, Err, refl, arith}, lemmas.Bool.lt-ltb}
use Rattle.do_grammar.specs.Reader.{short, bad}
use Rattle.do_sig.specs.declared.value_type.{Scalar.Scalar, ValueType.TheVariants.Simple}
use Rattle.do_sig.specs.{Letters.{is_letter, scalar_of}, Blame.{begins_type, why_no_type}}
use Rattle.do_sig.specs.reading.Types.{counted_at, named_at, type_at}
use Rattle.std.specs.Prelude.{not}
use Rattle.do_sig.proofs.{TestsPass.not_true, ByteAmong.letters_all}

-- no letter is a bracket
pub letter_apart : (b : ℕ) → is_letter b ≡ true → (eqb b 91 ≡ false) × (eqb b 123 ≡ false)
letter_apart b e = (
  not_true (eqb b 91) (letters_all (λ c. not (eqb c 91)) refl b e),
  not_true (eqb b 123) (letters_all (λ c. not (eqb c 123)) refl b e),
)

-- nothing is no type
pub type_end : (d : ℕ) (bytes : List ℕ) → bytes ≡ [] → type_at d bytes ≡ Err short
unfolding type_at
type_end zero bytes e = rw e refl
type_end (suc d) bytes e = rw e refl

-- a letter is a type
pub type_letter : (d b : ℕ) (s : Scalar) (rest : List ℕ) → is_letter b ≡ true
    → scalar_of b ≡ Some s → type_at d (b ∷ rest) ≡ Ok (Simple s, rest)
unfolding type_at
type_letter zero b s rest e h = rw (e, h) refl
type_letter (suc d) b s rest e h =
    let c = letter_apart b e in let p = c.0 in let q = c.1 in rw (e, p, q, h) refl

-- a byte that begins no type stops the reading
pub type_wrong : (d b : ℕ) (rest : List ℕ) → begins_type d b ≡ false
    → type_at d (b ∷ rest) ≡ Err (bad (why_no_type d b) (suc (length rest)))
unfolding type_at
type_wrong zero b rest e = rw e refl
type_wrong (suc d) b rest e = rw e refl

-- [ opens an array, where one more type may be open
pub type_array : (d : ℕ) (rest : List ℕ) → 0 < d
    → type_at d (91 ∷ rest) ≡ counted_at (type_at (d - 1)) rest
unfolding type_at
type_array zero rest h = absurd (omega arith)
type_array (suc d) rest h =
    let e : suc d - 1 ≡ d = omega arith in rw (lt-ltb 0 (suc d) h, e) refl

-- { opens a structure, where one more type may be open
pub type_structure : (d : ℕ) (rest : List ℕ) → 0 < d
    → type_at d (123 ∷ rest) ≡ named_at (type_at (d - 1)) rest
unfolding type_at
type_structure zero rest h = absurd (omega arith)
type_structure (suc d) rest h =
    let e : suc d - 1 ≡ d = omega arith in rw (lt-ltb 0 (suc d) h, e) refl

pub ruleset typing = (type_end, type_letter, type_wrong, type_array, type_structure)
