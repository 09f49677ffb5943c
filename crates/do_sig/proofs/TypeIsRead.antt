-- The steps of reading a type lead over its one spelling.
use Rattle.std.proofs.Common.{◌≡◌, ℕ, zero, suc, ◌+◌, ◌-◌, ◌*◌, ◌/◌, ◌%◌, ◌<◌, ◌≤◌, Bool, true}
use Rattle.std.proofs.Common.{false, leb, ltb, List, [], ◌∷◌, ◌++◌, map, Some, refl, sym, ap, subst}
use Rattle.std.proofs.Common.{◌∙◌, append_assoc, arith}
use Rattle.std.specs.{Prelude.{◌&&◌, not}, List.{flat_map, list_all, AllByRecursion}, Fmt.decimal}
use Rattle.std.proofs.lemmas.{Bool.lt-ltb, Fmt.decimal_by_steps}
use Rattle.do_grammar.specs.{Reader.goes, Forms.{Scans, Untils}}
use Rattle.do_sig.specs.declared.value_type.Scalar.{Scalar, TheVariants.{SignedChar, Short, Int}}
use Rattle.do_sig.specs.declared.value_type.Scalar.TheVariants.{Long, LongLong, UnsignedChar}
use Rattle.do_sig.specs.declared.value_type.Scalar.TheVariants.{UnsignedShort, UnsignedInt}
use Rattle.do_sig.specs.declared.value_type.Scalar.TheVariants.{UnsignedLong, UnsignedLongLong}
use Rattle.do_sig.specs.declared.value_type.Scalar.TheVariants.{Boolean, CString, Object, Class}
use Rattle.do_sig.specs.declared.value_type.Scalar.TheVariants.{Selector}
use Rattle.do_sig.specs.declared.value_type.ValueType.{ValueType, Array, Structure, ind-ValueType}
use Rattle.do_sig.specs.declared.value_type.ValueType.{map-ValueType, roll-ValueType}
use Rattle.do_sig.specs.declared.value_type.ValueType.{TheVariants.Simple, TheOpen.ValueType-F}
use Rattle.do_sig.specs.{Letters.{letter_of, is_letter, scalar_of}, Types.type_spelling}
use Rattle.do_sig.specs.{Types.{is_structure_name, within_step, is_within}, Blame.begins_type}
use Rattle.do_sig.{specs.reading.Types.{count_step, name_step}, proofs.CountSteps.digit_goes}
use Rattle.do_sig.proofs.{TypeSteps.letter_apart, TypeBySteps.{ArrayRest, Counted, StructureRest}}
use Rattle.do_sig.proofs.{TypeBySteps.ByStep, VariantSpelled.{spelling-Simple, spelling-Array}}
use Rattle.do_sig.proofs.VariantSpelled.{spelling-Structure, within-Array, within-Structure}
use Rattle.do_sig.proofs.{StepTests.{within_count, no_digit_leaves}, NameGrows.name_goes_on}
use Rattle.do_sig.proofs.{NameGrows.name_small, TestsPass.{both_pass, not_true, less_test}}
use Rattle.do_sig.proofs.{DigitTests.is_one_digit, ByteAmong.{letters_all, types_all}}

module _ (P : ValueType → Type 0) (simple : (s : Scalar) → P (Simple s))
    (array : (n : ℕ) (t : ValueType) → P t → P (Array n t))
    (structure : (name : List ℕ) (ts : List ValueType) → AllByRecursion P ts
    → P (Structure name ts)) where
  -- what holds of each holds of all
  each : {S : Type 0} (f : S → ValueType) → ((s : S) → P (f s)) → (ss : List S)
      → AllByRecursion P (map f ss)
  each f g [] = tt
  each f g (s ∷ ss) = (g s, each f g ss)

  -- what holds of the parts of one level holds of it
  level : {S : Type 0} (f : S → ValueType) → ((s : S) → P (f s)) → (y : ValueType-F S)
      → P (roll-ValueType (map-ValueType S ValueType f y))
  unfolding roll-ValueType denote.Hole.Carrier.roll
  level f g (ValueType-F.Simple s) = simple s
  level f g (ValueType-F.Array n t) = array n (f t) (g t)
  level f g (ValueType-F.Structure name ts) = structure name (map f ts) (each f g ts)

  -- what holds of each variant where it holds of its parts holds of every type
  type_induction : (t : ValueType) → P t
  type_induction =
      ind-ValueType P (λ x y e. subst (λ (x : ValueType-F ValueType). P (roll-ValueType x)) e
      (level (λ s. s.0) (λ s. s.1) y))

-- the letter of a type is a letter
letter_known : (s : Scalar) → is_letter (letter_of s) ≡ true
letter_known SignedChar = refl
letter_known Short = refl
letter_known Int = refl
letter_known Long = refl
letter_known LongLong = refl
letter_known UnsignedChar = refl
letter_known UnsignedShort = refl
letter_known UnsignedInt = refl
letter_known UnsignedLong = refl
letter_known UnsignedLongLong = refl
letter_known Boolean = refl
letter_known CString = refl
letter_known Object = refl
letter_known Class = refl
letter_known Selector = refl

-- the letter of a type means it
letter_means : (s : Scalar) → scalar_of (letter_of s) ≡ Some s
letter_means SignedChar = refl
letter_means Short = refl
letter_means Int = refl
letter_means Long = refl
letter_means LongLong = refl
letter_means UnsignedChar = refl
letter_means UnsignedShort = refl
letter_means UnsignedInt = refl
letter_means UnsignedLong = refl
letter_means UnsignedLongLong = refl
letter_means Boolean = refl
letter_means CString = refl
letter_means Object = refl
letter_means Class = refl
letter_means Selector = refl

-- a letter is a byte
letter_small : (b : ℕ) → is_letter b ≡ true → b < 256
letter_small b e = less_test b 256 (letters_all (λ c. ltb c 256) refl b e)

-- a type that may stand there is read by steps
abbrev IsRead : ValueType → Type 0
IsRead t = (d : ℕ) → is_within t d ≡ true → ByStep d (type_spelling t) t

-- a letter is read as its type
read_letter : (d b : ℕ) (s : Scalar) → is_letter b ≡ true → scalar_of b ≡ Some s
    → ByStep d (b ∷ []) (Simple s)
read_letter zero b s e h = record {
  value = b;
  front = b ∷ [];
  back = [];
  parts = refl;
  first = record { alone = refl; passes = rw e refl; small = letter_small b e };
  second = rw h (record { nothing = refl; same = refl });
}
read_letter (suc d) b s e h = record {
  value = b;
  front = b ∷ [];
  back = [];
  parts = refl;
  first = record { alone = refl; passes = rw e refl; small = letter_small b e };
  second =
      let c = letter_apart b e in
      let p = c.0 in
      let q = c.1 in
      rw (p, q, h) (record { nothing = refl; same = refl });
}

-- a type of one letter is read
read_simple : (s : Scalar) → IsRead (Simple s)
read_simple s = λ d w.
    subst (λ (text : List ℕ). ByStep d text (Simple s)) (sym (spelling-Simple s))
    (read_letter d (letter_of s) s (letter_known s) (letter_means s))

-- the digits of a count lead to it
read_count : (T : List ℕ → ValueType → Type 0) (n : ℕ) → n ≤ 1024 → (rest : List ℕ) (x : ValueType)
    → Scans count_step (ArrayRest T) n rest x → Counted T (decimal n ++ rest) x
read_count T n small =
    decimal_by_steps (λ m ds. m ≤ 1024 → (rest : List ℕ) (x : ValueType)
    → Scans count_step (ArrayRest T) m rest x → Counted T (ds ++ rest) x) one more n (omega arith)
    small
  where
    one : (m : ℕ) → m < 10 → m ≤ 1024 → (rest : List ℕ) (x : ValueType)
        → Scans count_step (ArrayRest T) m rest x → Counted T ((48 + m) ∷ [] ++ rest) x
    one m lt le rest x g =
        let same : m ≡ 48 + m - 48 = omega arith in
        record {
          value = 48 + m;
          front = (48 + m) ∷ [];
          back = rest;
          parts = refl;
          first = record {
            alone = refl;
            passes = is_one_digit (48 + m) (omega arith) (omega arith);
            small = omega arith;
          };
          second = subst (λ (v : ℕ). Scans count_step (ArrayRest T) v rest x) same g;
        }

    more : (m : ℕ) (ds : List ℕ) → 10 ≤ m
        → (m / 10 ≤ 1024 → (rest : List ℕ) (x : ValueType)
        → Scans count_step (ArrayRest T) (m / 10) rest x → Counted T (ds ++ rest) x)
        → m ≤ 1024 → (rest : List ℕ) (x : ValueType)
        → Scans count_step (ArrayRest T) m rest x
        → Counted T ((ds ++ ((48 + m % 10) ∷ [])) ++ rest) x
    more m ds ge again le rest x g =
        let b = 48 + m % 10 in
        let value : m / 10 * 10 + (48 + m % 10 - 48) ≡ m = omega arith in
        let step : count_step (m / 10) (48 + m % 10) ≡ goes (m / 10 * 10 + (48 + m % 10 - 48)) =
        digit_goes (m / 10) (48 + m % 10) (omega arith) (omega arith)
        (λ (z : m / 10 ≡ 0). omega arith) (omega arith) in
        let next : Scans count_step (ArrayRest T) (m / 10) ((48 + m % 10) ∷ rest) x = (
          omega arith,
          rw step
              (subst (λ (v : ℕ). Scans count_step (ArrayRest T) v rest x) (sym value) g),
        ) in
        subst (λ (w : List ℕ). Counted T w x) (sym (append_assoc ds ((48 + m % 10) ∷ []) rest))
        (again (omega arith) ((48 + m % 10) ∷ rest) x next)

-- no type begins with a digit
begins_no_digit : (d b : ℕ) → begins_type d b ≡ true → (leb 48 b && leb b 57) ≡ false
begins_no_digit d b e =
    not_true (leb 48 b && leb b 57)
    (types_all (λ c. not (leb 48 c && leb c 57)) refl refl refl d b e)

-- the first byte of a type
pub record BeginsType (d : ℕ) (text : List ℕ) : Type 0 where
  pub byte : ℕ
  pub rest : List ℕ
  pub parts : text ≡ byte ∷ rest
  pub begins : begins_type d byte ≡ true
  pub small : byte < 256

-- a type that is read begins so
pub type_begins : (d : ℕ) (text : List ℕ) (x : ValueType) → ByStep d text x → BeginsType d text
type_begins zero text x g = record {
  byte = g.value;
  rest = g.back;
  parts = g.parts ∙ ap (λ (w : List ℕ). w ++ g.back) g.first.alone;
  begins = g.first.passes;
  small = g.first.small;
}
type_begins (suc d) text x g = record {
  byte = g.value;
  rest = g.back;
  parts = g.parts ∙ ap (λ (w : List ℕ). w ++ g.back) g.first.alone;
  begins = g.first.passes;
  small = g.first.small;
}

-- [ begins a type where one more may be open
open_91 : (d : ℕ) → begins_type (suc d) 91 ≡ true
open_91 d = let e = lt-ltb 0 (suc d) (omega arith) in rw e refl

-- so does {
open_123 : (d : ℕ) → begins_type (suc d) 123 ≡ true
open_123 d = let e = lt-ltb 0 (suc d) (omega arith) in rw e refl

-- an array whose type is read is read
read_array : (n : ℕ) (t : ValueType) → IsRead t → IsRead (Array n t)
read_array n t item = λ d w. by_depth d (ap (λ (f : ℕ → Bool). f d) (sym (within-Array n t)) ∙ w)
  where
    by_depth : (d : ℕ) → within_step (ValueType-F.Array n (is_within t)) d ≡ true
        → ByStep d (type_spelling (Array n t)) (Array n t)
    by_depth zero w = absurd cc
    by_depth (suc d) w =
        let c = both_pass (leb n 1024) (is_within t d) w in
        let inner = item d c.1 in
        let b = type_begins d (type_spelling t) t inner in
        let rest = type_spelling t ++ 93 ∷ [] in
        let behind : ArrayRest (ByStep d) n rest (Array n t) = record {
          value = t;
          front = type_spelling t;
          back = 93 ∷ [];
          parts = refl;
          first = inner;
          second = record {
            value = 93;
            spelled = record { alone = refl; passes = refl; small = omega arith };
            same = refl;
          };
        } in
        let shape : rest ≡ b.byte ∷ (b.rest ++ 93 ∷ []) =
        ap (λ (w : List ℕ). w ++ 93 ∷ []) b.parts in
        let leave = no_digit_leaves n b.byte (begins_no_digit d b.byte b.begins) in
        let there : ArrayRest (ByStep d) n (b.byte ∷ (b.rest ++ 93 ∷ [])) (Array n t) =
        subst (λ (w : List ℕ). ArrayRest (ByStep d) n w (Array n t)) shape behind in
        let scans : Scans count_step (ArrayRest (ByStep d)) n (b.byte ∷ (b.rest ++ 93 ∷ []))
        (Array n t) = (b.small, rw leave there) in
        let scanned : Scans count_step (ArrayRest (ByStep d)) n rest (Array n t) =
        subst (λ (w : List ℕ). Scans count_step (ArrayRest (ByStep d)) n w (Array n t))
        (sym shape) scans in
        let digits = read_count (ByStep d) n (within_count n c.0) rest (Array n t) scanned in
        let whole : ByStep (suc d) (91 ∷ (decimal n ++ rest)) (Array n t) = record {
          value = 91;
          front = 91 ∷ [];
          back = decimal n ++ rest;
          parts = refl;
          first = record { alone = refl; passes = open_91 d; small = omega arith };
          second = digits;
        } in
        subst (λ (text : List ℕ). ByStep (suc d) text (Array n t)) (sym (spelling-Array n t)) whole

-- the bytes of a name lead to it
read_name : (T : List ℕ → ValueType → Type 0) (t s back : List ℕ) (x : ValueType)
    → is_structure_name (s ++ t) ≡ true → StructureRest T (s ++ t) (61 ∷ back) x
    → Scans name_step (StructureRest T) s (t ++ 61 ∷ back) x
read_name T [] s back x e g = at_end s (subst (λ (w : List ℕ). is_structure_name w ≡ true) none e)
    (subst (λ (w : List ℕ). StructureRest T w (61 ∷ back) x) none g)
  where
    append_none : (s : List ℕ) → s ++ [] ≡ s
    append_none [] = refl
    append_none (c ∷ s) = ap (λ (w : List ℕ). c ∷ w) (append_none s)

    none : s ++ [] ≡ s
    none = append_none s

    at_end : (s : List ℕ) → is_structure_name s ≡ true → StructureRest T s (61 ∷ back) x
        → Scans name_step (StructureRest T) s (61 ∷ back) x
    at_end [] e g = absurd cc
    at_end (c ∷ cs) e g = (omega arith, g)
read_name T (b ∷ t) s back x e g =
    let on = name_goes_on s b t e in
    let grouped : s ++ b ∷ t ≡ (s ++ b ∷ []) ++ t = sym (append_assoc s (b ∷ []) t) in
    let later = read_name T t (s ++ b ∷ []) back x
    (subst (λ (w : List ℕ). is_structure_name w ≡ true) grouped e)
    (subst (λ (w : List ℕ). StructureRest T w (61 ∷ back) x) grouped g) in
    (name_small s b on, rw on later)

-- members that are read are read up to }
read_members : (d : ℕ) (ts : List ValueType) → AllByRecursion IsRead ts
    → list_all (λ (member : ℕ → Bool). member d) (map is_within ts) ≡ true
    → Untils 125 (ByStep d) (flat_map (λ m. m) (map type_spelling ts) ++ 125 ∷ []) ts
read_members d [] all w = refl
read_members d (t ∷ ts) all w =
    let later = list_all (λ (member : ℕ → Bool). member d) (map is_within ts) in
    let c = both_pass (is_within t d) later w in
    let back = flat_map (λ m. m) (map type_spelling ts) in
    record {
      front = type_spelling t;
      back = back ++ 125 ∷ [];
      parts = append_assoc (type_spelling t) back (125 ∷ []);
      one = all.0 d c.0;
      others = read_members d ts all.1 c.1;
    }

-- a structure whose members are read is read
read_structure : (name : List ℕ) (ts : List ValueType) → AllByRecursion IsRead ts
    → IsRead (Structure name ts)
read_structure name ts all = λ d w.
    by_depth d (ap (λ (f : ℕ → Bool). f d) (sym (within-Structure name ts)) ∙ w)
  where
    by_depth : (d : ℕ)
        → within_step (ValueType-F.Structure name (map is_within ts)) d ≡ true
        → ByStep d (type_spelling (Structure name ts)) (Structure name ts)
    by_depth zero w = absurd cc
    by_depth (suc d) w =
        let fit = list_all (λ (member : ℕ → Bool). member d) (map is_within ts) in
        let c = both_pass (is_structure_name name) fit w in
        let back = flat_map (λ m. m) (map type_spelling ts) ++ 125 ∷ [] in
        let behind : StructureRest (ByStep d) name (61 ∷ back) (Structure name ts) = record {
          value = 61;
          front = 61 ∷ [];
          back = back;
          parts = refl;
          first = record { alone = refl; passes = refl; small = omega arith };
          second = record { value = ts; spelled = read_members d ts all c.1; same = refl };
        } in
        let whole : ByStep (suc d) (123 ∷ (name ++ 61 ∷ back)) (Structure name ts) = record {
          value = 123;
          front = 123 ∷ [];
          back = name ++ 61 ∷ back;
          parts = refl;
          first = record { alone = refl; passes = open_123 d; small = omega arith };
          second = read_name (ByStep d) name [] back (Structure name ts) c.0 behind;
        } in
        subst (λ (text : List ℕ). ByStep (suc d) text (Structure name ts))
        (sym (spelling-Structure name ts)) whole

-- the one spelling of a type that may stand there is read by steps
pub is_read : (t : ValueType) (d : ℕ) → is_within t d ≡ true → ByStep d (type_spelling t) t
is_read = type_induction IsRead read_simple read_array read_structure
