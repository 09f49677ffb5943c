-- Types are read exactly, by their grammar of steps.
use Rattle.std.proofs.Common.{◌≡◌, ℕ, zero, suc, ◌-◌, ◌<◌, Bool, true, false, cond, eqb, List, []}
use Rattle.std.proofs.Common.{◌∷◌, ◌++◌, Option, Result, Ok, Err, refl, sym, ap, subst, ◌∙◌, arith}
use Rattle.std.specs.Prelude.{◌&&◌, ◌||◌, ◌==◌}
use Rattle.std.proofs.lemmas.Bool.{false≢true, Decides.nat_tests}
use Rattle.do_grammar.specs.Reader.{Reader, Stop, and_then, mapped, byte_of, until, scan_to, ◌>>=◌}
use Rattle.do_grammar.specs.Grammar.{Begins}
use Rattle.do_grammar.specs.Forms.{Byte, Passes, Mapped, Either, Scans, Untils, Apart}
use Rattle.do_grammar.proofs.reads.ExactReader.{Reads, Reads-as, Reads-done, Reads-then, Reads-byte}
use Rattle.do_grammar.proofs.reads.FormsExact.{Reads-mapped, Reads-either}
use Rattle.do_grammar.proofs.reads.{ScanExact.{Reads-scan, Reads-scanned}, UntilExact.Reads-until}
use Rattle.do_sig.specs.declared.{fault.Kind.{Kind, TheVariants.BadChar}, value_type.Scalar.Scalar}
use Rattle.do_sig.specs.declared.value_type.{Scalar.TheVariants.SignedChar, ValueType.ValueType}
use Rattle.do_sig.specs.declared.value_type.ValueType.{Array, Structure, TheVariants.Simple}
use Rattle.do_sig.specs.{Letters.{is_digit, is_letter, scalar_of}, Blame.{begins_type, why_no_type}}
use Rattle.do_sig.specs.reading.Types.{count_step, name_step, exactly, array_at, counted_at}
use Rattle.do_sig.specs.reading.Types.{structure_at, named_at, letter_at, body_at, type_at}
use Rattle.do_sig.proofs.{ScalarLetters.letter_named, TypeBySteps.{Exactly, ArrayRest, Counted}}
use Rattle.do_sig.proofs.TypeBySteps.{StructureRest, Named, LetterRest, Body, ByStep}

-- ---- what it needs

-- a byte is read as itself
Reads-exactly : (c : ℕ) → c < 256 → Reads (Exactly c) (exactly c)
Reads-exactly c small =
    Reads-byte (λ b. b == c) (λ b. BadChar)
    (record { byte = c; small = small; passes = eq_self c })
  where
    eq_self : (c : ℕ) → eqb c c ≡ true
    eq_self c = grind (arith, nat_tests)

-- what a byte that begins a type leads to is no }
byte_apart : (d : ℕ) (text front back : List ℕ) (b : ℕ) → text ≡ front ++ back
    → Byte (begins_type d) front b → Apart 125 text
byte_apart d [] front back b p g =
    let e = g.alone in let q = ap (λ (w : List ℕ). w ++ back) e in absurd cc
byte_apart d (c ∷ text) front back b p g = λ (e : c ≡ 125).
    let q = p ∙ ap (λ (w : List ℕ). w ++ back) g.alone in
    let same : c ≡ b = cc in
    let no : begins_type d 125 ≡ true =
    subst (λ (w : ℕ). begins_type d w ≡ true) (sym same ∙ e) g.passes in
    false≢true no

-- ---- letters

-- a byte that begins a type and is no bracket is a letter
pub is_some_letter : (d b : ℕ) → begins_type d b ≡ true → eqb b 91 ≡ false → eqb b 123 ≡ false
    → is_letter b ≡ true
is_some_letter d b e p q = go (is_letter b) (rw (p, q) at e)
  where
    go : (t : Bool) → (t || false) ≡ true → t ≡ true
    go true h = refl
    go false h = absurd cc

-- where no more may be open, a byte that begins a type is a letter
pub is_only_letter : (b : ℕ) → begins_type 0 b ≡ true → is_letter b ≡ true
is_only_letter b e = go (is_letter b) ((b == 91) || (b == 123)) e
  where
    go : (t u : Bool) → (t || (u && false)) ≡ true → t ≡ true
    go true u h = refl
    go false true h = absurd cc
    go false false h = absurd cc

-- behind a letter nothing is read
Reads-letter : (b : ℕ) → is_letter b ≡ true
    → Reads (LetterRest (scalar_of b)) (letter_at (scalar_of b))
Reads-letter b e =
    let n = letter_named b e in
    subst (λ (o : Option Scalar). Reads (LetterRest o) (letter_at o)) (sym n.found)
    (Reads-done (Simple n.scalar))

module _ (T : List ℕ → ValueType → Type 0) (r : Reader Kind ValueType) (R : Reads T r)
    (some : T (99 ∷ []) (Simple SignedChar)) (solid : (x : ValueType) → T [] x → ⊥)
    (apart : (text : List ℕ) (x : ValueType) → T text x → Apart 125 text) where
  -- ---- arrays

  -- a count can always end
  count_live : (n : ℕ) → Begins (Scans count_step (ArrayRest T) n) []
  count_live n = record {
    more = 99 ∷ 93 ∷ [];
    value = Array n (Simple SignedChar);
    spelled = (
      omega arith,
      record {
        value = Simple SignedChar;
        front = 99 ∷ [];
        back = 93 ∷ [];
        parts = refl;
        first = some;
        second = record {
          value = 93;
          spelled = record { alone = refl; passes = refl; small = omega arith };
          same = refl;
        };
      },
    );
  }

  -- what stands behind a count is read
  array_reads : (n : ℕ) → Reads (ArrayRest T n) (array_at r n)
  array_reads n =
      Reads-then T (λ t. Mapped (λ b. Array n t) (Exactly 93)) r
      (λ t. mapped (λ b. Array n t) (exactly 93)) R
      (λ t text g. Reads-mapped (λ b. Array n t) (Exactly 93) (exactly 93)
      (Reads-exactly 93 (omega arith)))

  -- nothing is no rest of an array
  array_solid : (n : ℕ) (x : ValueType) → ArrayRest T n [] x → ⊥
  array_solid n x g = go g.front g.parts g.first
    where
      go : (front : List ℕ) → [] ≡ front ++ g.back → T front g.value → ⊥
      go [] p h = solid g.value h
      go (b ∷ front) p h = absurd cc

  -- the digits behind the first, and the rest of the array
  Reads-count : (n : ℕ) → Reads (Scans count_step (ArrayRest T) n)
      (and_then (scan_to count_step n) (array_at r))
  Reads-count n =
      Reads-scanned (Scans count_step (ArrayRest T) n) count_step (array_at r) n
      (Reads-scan count_step (ArrayRest T) (array_at r) (λ s. Unit {0}) (λ s b t good e. tt)
      (λ s good. count_live s) (λ s b good e. array_reads s) array_solid n tt)

  -- reading the first digit apart changes nothing
  regroup : (bytes : List ℕ)
      → and_then (byte_of is_digit (λ b. BadChar))
      (λ b. and_then (scan_to count_step (b - 48)) (array_at r)) bytes
      ≡ counted_at r bytes
  regroup bytes = go (byte_of is_digit (λ b. BadChar) bytes)
    where
      go : (o : Result (ℕ × List ℕ) (Stop Kind))
          → (o >>= λ x. and_then (scan_to count_step (x.0 - 48)) (array_at r) x.1)
          ≡ ((o >>= λ x. scan_to count_step (x.0 - 48) x.1) >>= λ x. array_at r x.0 x.1)
      go (Ok x) = refl
      go (Err e) = refl

  -- some byte is a digit
  some_digit : Passes is_digit
  some_digit = record { byte = 48; small = omega arith; passes = refl }

  -- an array is read exactly
  Reads-counted : Reads (Counted T) (counted_at r)
  Reads-counted =
      Reads-as (Counted T) (Counted T)
      (and_then (byte_of is_digit (λ b. BadChar))
      (λ b. and_then (scan_to count_step (b - 48)) (array_at r)))
      (counted_at r) (λ text x g. g) (λ text x g. g) regroup
      (Reads-then (Byte is_digit) (λ b. Scans count_step (ArrayRest T) (b - 48))
      (byte_of is_digit (λ b. BadChar)) (λ b. and_then (scan_to count_step (b - 48)) (array_at r))
      (Reads-byte is_digit (λ b. BadChar) some_digit) (λ b text g. Reads-count (b - 48)))

  -- ---- structures

  -- a name that is not empty can end
  name_live_some : (c : ℕ) (s : List ℕ) → Begins (Scans name_step (StructureRest T) (c ∷ s)) []
  name_live_some c s = record {
    more = 61 ∷ 125 ∷ [];
    value = Structure (c ∷ s) [];
    spelled = (
      omega arith,
      record {
        value = 61;
        front = 61 ∷ [];
        back = 125 ∷ [];
        parts = refl;
        first = record { alone = refl; passes = refl; small = omega arith };
        second = record { value = []; spelled = refl; same = refl };
      },
    );
  }

  -- a structure can be spelled from any name on
  name_live : (s : List ℕ) → Begins (Scans name_step (StructureRest T) s) []
  name_live [] =
      let b = name_live_some 95 [] in
      record { more = 95 ∷ b.more; value = b.value; spelled = (omega arith, b.spelled) }
  name_live (c ∷ s) = name_live_some c s

  -- what stands behind a name is read
  structure_reads : (s : List ℕ) → Reads (StructureRest T s) (structure_at r s)
  structure_reads s =
      Reads-then (Exactly 61) (λ b. Mapped (λ ts. Structure s ts) (Untils 125 T)) (exactly 61)
      (λ b. mapped (λ ts. Structure s ts) (until 125 r)) (Reads-exactly 61 (omega arith))
      (λ b text g. Reads-mapped (λ ts. Structure s ts) (Untils 125 T) (until 125 r)
      (Reads-until 125 (omega arith) T r R apart))

  -- nothing is no rest of a structure
  structure_solid : (s : List ℕ) (x : ValueType) → StructureRest T s [] x → ⊥
  structure_solid s x g =
      let e = g.first.alone in
      let p = g.parts in
      let q = ap (λ (w : List ℕ). w ++ g.back) e in
      absurd cc

  -- a structure is read exactly
  Reads-named : Reads (Named T) (named_at r)
  Reads-named =
      Reads-scanned (Named T) name_step (structure_at r) []
      (Reads-scan name_step (StructureRest T) (structure_at r) (λ s. Unit {0})
      (λ s b t good e. tt) (λ s good. name_live s) (λ s b good e. structure_reads s)
      structure_solid [] tt)

  -- what stands behind the first byte of a type is read
  pub Reads-body : (b : ℕ) → (eqb b 91 ≡ false → eqb b 123 ≡ false → is_letter b ≡ true)
      → Reads (Body T b) (body_at r b)
  Reads-body b letter =
      Reads-either (b == 91) (Counted T) (Either (b == 123) (Named T) (LetterRest (scalar_of b)))
      (counted_at r) (cond (b == 123) (named_at r) (letter_at (scalar_of b)))
      (λ e. Reads-counted)
      (λ e. Reads-either (b == 123) (Named T) (LetterRest (scalar_of b)) (named_at r)
      (letter_at (scalar_of b)) (λ e'. Reads-named) (λ e'. Reads-letter b (letter e e')))

-- a type begins with no }, and isn't empty
pub type_apart : (d : ℕ) (text : List ℕ) (x : ValueType) → ByStep d text x → Apart 125 text
type_apart zero text x g = byte_apart 0 text g.front g.back g.value g.parts g.first
type_apart (suc d) text x g = byte_apart (suc d) text g.front g.back g.value g.parts g.first

-- nothing is no type
pub type_solid : (d : ℕ) (x : ValueType) → ByStep d [] x → ⊥
type_solid d x g = type_apart d [] x g

-- c is a type
pub type_some : (d : ℕ) → ByStep d (99 ∷ []) (Simple SignedChar)
type_some zero = record {
  value = 99;
  front = 99 ∷ [];
  back = [];
  parts = refl;
  first = record { alone = refl; passes = refl; small = omega arith };
  second = record { nothing = refl; same = refl };
}
type_some (suc d) = record {
  value = 99;
  front = 99 ∷ [];
  back = [];
  parts = refl;
  first = record { alone = refl; passes = refl; small = omega arith };
  second = record { nothing = refl; same = refl };
}

-- some byte begins a type
some_begins : (d : ℕ) → Passes (begins_type d)
some_begins d = record { byte = 99; small = omega arith; passes = refl }

-- a type is read exactly
pub Reads-type : (d : ℕ) → Reads (ByStep d) (type_at d)
unfolding type_at
Reads-type zero =
    Reads-then (Byte (begins_type 0)) (λ b. LetterRest (scalar_of b))
    (byte_of (begins_type 0) (why_no_type 0)) (λ b. letter_at (scalar_of b))
    (Reads-byte (begins_type 0) (why_no_type 0) (some_begins 0))
    (λ b text g. Reads-letter b (is_only_letter b g.passes))
Reads-type (suc d) =
    Reads-then (Byte (begins_type (suc d))) (Body (ByStep d))
    (byte_of (begins_type (suc d)) (why_no_type (suc d))) (body_at (type_at d))
    (Reads-byte (begins_type (suc d)) (why_no_type (suc d)) (some_begins (suc d)))
    (λ b text g. Reads-body (ByStep d) (type_at d) (Reads-type d) (type_some d) (type_solid d)
    (type_apart d) b (λ p q. is_some_letter (suc d) b g.passes p q))
