-- What is printed of a signature spells it, and what is spelled keeps to the limits.
use Rattle.std.proofs.Common.{◌≡◌, ℕ, zero, suc, ◌≤◌, Bool, true, false, cond, eqb, leb, List, []}
use Rattle.std.proofs.Common.{◌∷◌, ◌++◌, length, Option, Some, None, Result, Ok, Err, map, refl}
use Rattle.std.proofs.Common.{sym, ap, subst, ◌∙◌, append_assoc, arith}
use Rattle.std.specs.{Prelude.{◌||◌, ◌&&◌, not}, List.{flat_map, AllByRecursion}}
use Rattle.std.proofs.lemmas.List.{append-nil, length-map}
use Rattle.do_grammar.specs.{Reader.{Step, goes, leaves, fails}, Grammar.IsBytes}
use Rattle.do_grammar.specs.Forms.{Then, OnStep, Scans, OnGo, Accepts}
use Rattle.do_sig.specs.declared.{fault.Kind.Kind, outermost.place.Place.Place}
use Rattle.do_sig.specs.declared.outermost.place.Place.TheVariants.{Returned, Argument}
use Rattle.do_sig.specs.{declared.qualifiers.Qualifiers.Qualifiers, Letters.is_qualifier}
use Rattle.do_sig.specs.MethodTypes.{QualifiedType, MethodType, IsEncodingOf, IsMethodType}
use Rattle.do_sig.specs.{declared.value_type.Scalar.Scalar, Bare.{bare, simple_encoding}}
use Rattle.do_sig.specs.{Bare.{simple_result, simple_method}, Blame.why_no_more}
use Rattle.do_sig.specs.Offsets.{Offset, fresh, signed, digits, offset_step, offset_ends, last_step}
use Rattle.do_sig.specs.{Marks.{marked, goes_or_fails, qualifier_step}, Spelling.encoding_spelling}
use Rattle.do_sig.specs.{Spelling.signature_spelling, Encodings.{IsQualified, IsEncodingAt}}
use Rattle.do_sig.specs.{Signatures.{IsBare, IsArgs, IsSignature}, reading.Ending.ScansAll}
use Rattle.do_sig.specs.reading.Signatures.{signature_of}
use Rattle.do_sig.proofs.{VariantSpelled.within-Simple, OuterExact.outer_begins}
use Rattle.do_sig.proofs.EncodingExact.{Reads-encoding_at, encoding_stands}
use Rattle.do_sig.proofs.{EncodingPrinted.{outer_free, encoding_printed}, TestsPass.not_true}
use Rattle.do_sig.proofs.ByteAmong.{one_of_all}

-- ---- an encoding does not begin as an offset does

-- no digit and no sign
record IsApart (b : ℕ) : Type 0 where
  no_digit : (leb 48 b && leb b 57) ≡ false
  no_sign : (eqb b 43 || eqb b 45) ≡ false

-- a qualifier is neither
mark_apart : (b : ℕ) → is_qualifier b ≡ true → IsApart b
mark_apart b e = record {
  no_digit =
      not_true (leb 48 b && leb b 57)
      (one_of_all (λ c. not (leb 48 c && leb c 57)) marks refl b e);
  no_sign =
      not_true (eqb b 43 || eqb b 45) (one_of_all (λ c. not (eqb c 43 || eqb c 45)) marks refl b e);
}
  where
    marks : List ℕ
    marks = 86 ∷ 114 ∷ 110 ∷ 78 ∷ 111 ∷ 79 ∷ 82 ∷ []

-- such a byte ends an offset
apart_leaves : (b : ℕ) → IsApart b → offset_step fresh b ≡ leaves
apart_leaves b f = let p = f.no_digit in let q = f.no_sign in rw (p, q) refl

-- what goes on among the qualifiers is one
is_marked : (t : Bool) (o : Option Qualifiers) (u : Qualifiers)
    → cond {A = Step Qualifiers Kind} t (goes_or_fails o) leaves ≡ goes u → t ≡ true
is_marked true o u e = refl
is_marked false o u e = absurd cc

-- the first of two texts that are the same
first_byte : (b c : ℕ) (xs ys : List ℕ) → b ∷ xs ≡ c ∷ ys → b ≡ c
first_byte b c xs ys e = cc

-- the first byte of an encoding
record Headed (text : List ℕ) : Type 0 where
  byte : ℕ
  rest : List ℕ
  parts : text ≡ byte ∷ rest
  apart : IsApart byte

-- an encoding begins with such a byte
headed : (place : Place) (text : List ℕ) (q : Qualifiers) (e : QualifiedType)
    → Scans (qualifier_step place) (IsQualified place) q text e → Headed text
headed place [] q e g = absurd g
headed place (b ∷ text) q e g = on (qualifier_step place q b) refl g.1
  where
    at_type : IsQualified place q (b ∷ text) e → Headed (b ∷ text)
    at_type k =
        let o = outer_begins place e.qualifiers.oneway e.value_type k.stands in
        let free = outer_free place e.qualifiers.oneway o.byte o.begins in
        let same : b ≡ o.byte = first_byte b o.byte text o.rest (k.spelled ∙ o.parts) in
        let apart : IsApart o.byte =
        record { no_digit = free.no_digit; no_sign = free.no_sign } in
        record { byte = b; rest = text; parts = refl; apart = subst IsApart (sym same) apart }

    on : (t : Step Qualifiers Kind) → qualifier_step place q b ≡ t
        → OnStep t (λ u. Scans (qualifier_step place) (IsQualified place) u text e)
        (IsQualified place q (b ∷ text) e)
        → Headed (b ∷ text)
    on (goes u) h k = record {
      byte = b;
      rest = text;
      parts = refl;
      apart = mark_apart b (is_marked (is_qualifier b) (marked place q b) u h);
    }
    on leaves h k = at_type k
    on (fails j) h k = absurd k

-- ---- what is spelled keeps to the limits

-- an offset that ends gives the value before it
ends_value : {A : Type 0} (x y : A) (s : Offset) → offset_ends x s ≡ Some y → x ≡ y
ends_value x y fresh e = cc
ends_value x y signed e = absurd cc
ends_value x y digits e = cc

-- running over an offset gives the value that stands before it
run_value : {A : Type 0} (step : Offset → ℕ → Result Offset Kind) (x y : A) (text : List ℕ)
    (s : Offset) → Accepts step (offset_ends x) s text y → x ≡ y
run_value step x y [] s g = ends_value x y s g
run_value step x y (b ∷ text) s g = on (λ t h. run_value step x y text t h) (step s b) g.1
  where
    on : ((t : Offset) → Accepts step (offset_ends x) t text y → x ≡ y) → (t : Result Offset Kind)
        → OnGo t (λ t. Accepts step (offset_ends x) t text y) → x ≡ y
    on again (Ok t) h = again t h
    on again (Err k) h = absurd h

-- the arguments behind those that were read: at most n, each of which may stand there
record Limited (n : ℕ) (returned : QualifiedType) (args : List QualifiedType) (x : MethodType) :
    Type 0 where
  more : List QualifiedType
  same : x ≡ signature_of returned (args ++ more)
  stand : AllByRecursion (IsEncodingOf Argument) more
  few : length more ≤ n

-- no argument more
no_more : (n : ℕ) (returned : QualifiedType) (args : List QualifiedType) (x : MethodType)
    → signature_of returned args ≡ x → Limited n returned args x
no_more n returned args x e = record {
  more = [];
  same = sym e ∙ ap (signature_of returned) (sym (append-nil args));
  stand = tt;
  few = omega arith;
}

-- the arguments that are spelled keep to the limits
args_limited : (n : ℕ) (returned : QualifiedType) (args : List QualifiedType) (text : List ℕ)
    (x : MethodType) → IsArgs n returned args text x → Limited n returned args x
args_limited zero returned args text x g =
    no_more 0 returned args x
    (run_value (last_step why_no_more) (signature_of returned args) x text fresh g)
args_limited (suc n) returned args text x g =
    all (λ arg text h. args_limited n returned (args ++ arg ∷ []) text x h) text fresh g
  where
    at_arg : ((arg : QualifiedType) (text : List ℕ) → IsArgs n returned (args ++ arg ∷ []) text x
        → Limited n returned (args ++ arg ∷ []) x)
        → (text : List ℕ)
        → Then (IsEncodingAt Argument) (λ arg. IsArgs n returned (args ++ arg ∷ [])) text x
        → Limited (suc n) returned args x
    at_arg later text h =
        let p = later h.value h.back h.second in
        record {
          more = h.value ∷ p.more;
          same = p.same ∙ ap (signature_of returned) (append_assoc args (h.value ∷ []) p.more);
          stand = (encoding_stands Argument h.front bare h.value h.first, p.stand);
          few = omega (arith, p.few);
        }

    all : ((arg : QualifiedType) (text : List ℕ) → IsArgs n returned (args ++ arg ∷ []) text x
        → Limited n returned (args ++ arg ∷ []) x)
        → (text : List ℕ) (s : Offset)
        → ScansAll offset_step (offset_ends (signature_of returned args))
        (λ s. Then (IsEncodingAt Argument) (λ arg. IsArgs n returned (args ++ arg ∷ []))) s text x
        → Limited (suc n) returned args x
    all later [] s g =
        no_more (suc n) returned args x (ends_value (signature_of returned args) x s g)
    all later (b ∷ text) s g = on (λ t h. all later text t h) (offset_step s b) g.1
      where
        on : ((t : Offset)
            → ScansAll offset_step (offset_ends (signature_of returned args))
            (λ s. Then (IsEncodingAt Argument) (λ arg. IsArgs n returned (args ++ arg ∷ [])))
            t text x
            → Limited (suc n) returned args x)
            → (t : Step Offset Kind)
            → OnStep t
            (λ t. ScansAll offset_step (offset_ends (signature_of returned args))
            (λ s. Then (IsEncodingAt Argument) (λ arg. IsArgs n returned (args ++ arg ∷ [])))
            t text x)
            (Then (IsEncodingAt Argument) (λ arg. IsArgs n returned (args ++ arg ∷ []))
            (b ∷ text) x)
            → Limited (suc n) returned args x
        on again (goes t) h = again t h
        on again leaves h = at_arg later (b ∷ text) h
        on again (fails k) h = absurd h

-- every signature that is spelled keeps to the limits
pub signature_limited : (text : List ℕ) (x : MethodType) → IsSignature text x → IsMethodType x
signature_limited text x g =
    let p = args_limited 8 g.value [] g.second.second.back x g.second.second.second in
    let made : IsMethodType (signature_of g.value p.more) = record {
      returned = encoding_stands Returned g.front bare g.value g.first;
      args = p.stand;
      few = p.few;
    } in
    subst IsMethodType (sym p.same) made

-- ---- what is printed is spelled

-- the arguments that are printed are spelled
args_printed : (n : ℕ) (returned : QualifiedType) (args more : List QualifiedType)
    → AllByRecursion (IsEncodingOf Argument) more → length more ≤ n
    → IsArgs n returned args (flat_map encoding_spelling more)
    (signature_of returned (args ++ more))
args_printed zero returned args [] stand few =
    ap (λ (v : List QualifiedType). Some (signature_of returned v)) (sym (append-nil args))
args_printed (suc n) returned args [] stand few =
    ap (λ (v : List QualifiedType). Some (signature_of returned v)) (sym (append-nil args))
args_printed zero returned args (a ∷ more) stand few = absurd (omega (arith, few))
args_printed (suc n) returned args (a ∷ more) stand few =
    let x = signature_of returned (args ++ a ∷ more) in
    let back = flat_map encoding_spelling more in
    let arg = encoding_printed Argument a stand.0 in
    let head = headed Argument (encoding_spelling a) bare a arg in
    let small : IsBytes (head.byte ∷ head.rest) =
    subst IsBytes head.parts ((Reads-encoding_at Argument).bytes (encoding_spelling a) a arg) in
    let later = args_printed n returned (args ++ a ∷ []) more stand.1 (omega (arith, few)) in
    let grouped : (args ++ a ∷ []) ++ more ≡ args ++ a ∷ more = append_assoc args (a ∷ []) more in
    let second : IsArgs n returned (args ++ a ∷ []) back x =
    subst (λ (v : List QualifiedType). IsArgs n returned (args ++ a ∷ []) back
    (signature_of returned v)) grouped later in
    let whole : Then (IsEncodingAt Argument) (λ arg. IsArgs n returned (args ++ arg ∷ []))
    (encoding_spelling a ++ back) x =
    record {
      value = a;
      front = encoding_spelling a;
      back = back;
      parts = refl;
      first = arg;
      second = second;
    } in
    let leave = apart_leaves head.byte head.apart in
    let there : Then (IsEncodingAt Argument) (λ arg. IsArgs n returned (args ++ arg ∷ []))
    ((head.byte ∷ head.rest) ++ back) x =
    subst (λ (w : List ℕ). Then (IsEncodingAt Argument)
    (λ arg. IsArgs n returned (args ++ arg ∷ [])) (w ++ back) x) head.parts whole in
    subst (λ (w : List ℕ). ScansAll offset_step (offset_ends (signature_of returned args))
    (λ s. Then (IsEncodingAt Argument) (λ arg. IsArgs n returned (args ++ arg ∷ []))) fresh
    (w ++ back) x) (sym head.parts) (small.0, rw leave there)

-- @ is a receiver
receiver_spelled : IsBare 64 (64 ∷ []) 64
receiver_spelled = (omega arith, record { alone = refl; passes = refl; small = omega arith })

-- : is a selector
selector_spelled : IsBare 58 (58 ∷ []) 58
selector_spelled = (omega arith, record { alone = refl; passes = refl; small = omega arith })

-- what is printed of a signature within the limits spells it
pub signature_printed : (text : List ℕ) (x : MethodType) → text ≡ signature_spelling x
    → IsMethodType x → IsSignature text x
signature_printed text x same may =
    let back = flat_map encoding_spelling x.args in
    record {
      value = x.returned;
      front = encoding_spelling x.returned;
      back = 64 ∷ 58 ∷ back;
      parts = same;
      first = encoding_printed Returned x.returned may.returned;
      second = record {
        value = 64;
        front = 64 ∷ [];
        back = 58 ∷ back;
        parts = refl;
        first = receiver_spelled;
        second = record {
          value = 58;
          front = 58 ∷ [];
          back = back;
          parts = refl;
          first = selector_spelled;
          second = args_printed 8 x.returned [] x.args may.args may.few;
        };
      };
    }

-- ---- types of one letter

-- types of one letter may be arguments
letters_stand : (ss : List Scalar)
    → AllByRecursion (IsEncodingOf Argument) (map simple_encoding ss)
letters_stand [] = tt
letters_stand (s ∷ ss) =
    ((refl, ap (λ (f : ℕ → Bool). f 8) (within-Simple s)), letters_stand ss)

-- a type of one letter, or v, may be a result
letter_returns : (returned : Option Scalar) → IsEncodingOf Returned (simple_result returned)
letter_returns None = refl
letter_returns (Some s) = (refl, ap (λ (f : ℕ → Bool). f 8) (within-Simple s))

-- a signature of types of one letter keeps to the limits
pub simple_limited : (returned : Option Scalar) (result : QualifiedType) (ss : List Scalar)
    (args : List QualifiedType) → length ss ≤ 8 → result ≡ simple_result returned
    → args ≡ map simple_encoding ss → IsMethodType (signature_of result args)
simple_limited returned result ss args few e h =
    let made : IsMethodType (simple_method returned ss) = record {
      returned = letter_returns returned;
      args = letters_stand ss;
      few = omega (arith, few, length-map ss simple_encoding);
    } in
    rw (e, h) made

-- ---- a text that grows piece by piece

-- the result, @, : and the arguments, one behind the other, are the whole spelling
pub pieces_spelled : (x : MethodType) (none first second third text : List ℕ) → none ≡ []
    → first ≡ none ++ encoding_spelling x.returned → second ≡ first ++ 64 ∷ []
    → third ≡ second ++ 58 ∷ [] → text ≡ third ++ flat_map encoding_spelling x.args
    → text ≡ signature_spelling x
pieces_spelled x none first second third text n f s t e =
    let r = encoding_spelling x.returned in
    let back = flat_map encoding_spelling x.args in
    let a : first ≡ r = f ∙ ap (λ (w : List ℕ). w ++ r) n in
    let b : second ≡ r ++ 64 ∷ [] = s ∙ ap (λ (w : List ℕ). w ++ 64 ∷ []) a in
    let d : third ≡ (r ++ 64 ∷ []) ++ 58 ∷ [] = t ∙ ap (λ (w : List ℕ). w ++ 58 ∷ []) b in
    e ∙ ap (λ (w : List ℕ). w ++ back) d ∙ append_assoc (r ++ 64 ∷ []) (58 ∷ []) back
    ∙ append_assoc r (64 ∷ []) (58 ∷ back)
