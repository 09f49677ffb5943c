-- Outermost types are read exactly.
use Rattle.std.proofs.Common.{◌≡◌, ℕ, ◌<◌, Bool, true, false, cond, eqb, List, [], ◌∷◌, ◌++◌, refl}
use Rattle.std.{proofs.Common.{sym, ap, subst, ◌∙◌, arith}, specs.Prelude.{◌==◌, ◌||◌, ◌&&◌, not}}
use Rattle.std.proofs.lemmas.Bool.{eqb-true, false≢true}
use Rattle.do_grammar.specs.Reader.{done, mapped, byte_of}
use Rattle.do_grammar.specs.Forms.{Then, Done, Byte, Passes, Mapped, Either}
use Rattle.do_grammar.proofs.reads.ExactReader.{Reads, Reads-done, Reads-then, Reads-byte}
use Rattle.do_grammar.proofs.reads.FormsExact.{Reads-mapped, Reads-either}
use Rattle.do_sig.specs.declared.outermost.place.Place.{Place}
use Rattle.do_sig.specs.declared.value_type.OutermostType.{OutermostType}
use Rattle.do_sig.specs.declared.value_type.OutermostType.TheVariants.{Void, Pointer, Plain}
use Rattle.do_sig.specs.{Letters.is_letter, Places.{may_return, may_point, MayStand}}
use Rattle.do_sig.specs.{Blame.{begins_type, why_no_type}, Spelling.outermost_spelling}
use Rattle.do_sig.specs.reading.Types.{body_at, type_at}
use Rattle.do_sig.specs.reading.Outermost.{begins_outermost, outermost_body_at, outermost_at}
use Rattle.do_sig.proofs.{TypeBySteps.{Body, ByStep}, TypeExact.{Reads-type, Reads-body, type_some}}
use Rattle.do_sig.proofs.TypeExact.{type_solid, type_apart, is_some_letter}
use Rattle.do_sig.proofs.{TypeIsSpelled.{type_is, body_is}, TypeIsRead.is_read, TestsPass.not_true}
use Rattle.do_sig.proofs.ByteAmong.{types_all}

-- what stands behind the first byte of an outermost type
abbrev pub OuterBody : ℕ → List ℕ → OutermostType → Type 0
OuterBody b =
    Either (b == 118) (Done Void)
    (Either (b == 94) (Mapped Pointer (ByStep 7)) (Mapped Plain (Body (ByStep 7) b)))

-- an outermost type, as it is read
abbrev pub OuterByStep : Place → Bool → List ℕ → OutermostType → Type 0
OuterByStep place oneway = Then (Byte (begins_outermost place oneway)) OuterBody

-- where neither v nor ^ stands, a type does
pub plain_side : (t u v : Bool) → (t || ((u && false) || (v && false))) ≡ true → t ≡ true
plain_side true u v h = refl
plain_side false true true h = absurd cc
plain_side false true false h = absurd cc
plain_side false false true h = absurd cc
plain_side false false false h = absurd cc

-- an outermost type that is no v and no ^ begins as any type
pub begins_plain : (place : Place) (oneway : Bool) (b : ℕ) → begins_outermost place oneway b ≡ true
    → eqb b 118 ≡ false → eqb b 94 ≡ false → begins_type 8 b ≡ true
begins_plain place true b e p q = let no : false ≡ true = sym p ∙ e in absurd (false≢true no)
begins_plain place false b e p q =
    plain_side (begins_type 8 b) (may_return place) (may_point place) (rw (p, q) at e)

-- so what is no letter there is a bracket
pub plain_letter : (place : Place) (oneway : Bool) (b : ℕ) → begins_outermost place oneway b ≡ true
    → eqb b 118 ≡ false → eqb b 94 ≡ false → eqb b 91 ≡ false → eqb b 123 ≡ false
    → is_letter b ≡ true
plain_letter place oneway b e p q r s =
    is_some_letter 8 b (begins_plain place oneway b e p q) r s

-- what stands behind the first byte is read exactly
pub Reads-outer_body : (place : Place) (oneway : Bool) (b : ℕ)
    → begins_outermost place oneway b ≡ true → Reads (OuterBody b) (outermost_body_at b)
Reads-outer_body place oneway b begins =
    Reads-either (b == 118) (Done Void)
    (Either (b == 94) (Mapped Pointer (ByStep 7)) (Mapped Plain (Body (ByStep 7) b)))
    (done Void) (cond (b == 94) (mapped Pointer (type_at 7)) (mapped Plain (body_at (type_at 7) b)))
    (λ e. Reads-done Void)
    (λ e. Reads-either (b == 94) (Mapped Pointer (ByStep 7)) (Mapped Plain (Body (ByStep 7) b))
    (mapped Pointer (type_at 7)) (mapped Plain (body_at (type_at 7) b))
    (λ e'. Reads-mapped Pointer (ByStep 7) (type_at 7) (Reads-type 7))
    (λ e'. Reads-mapped Plain (Body (ByStep 7) b) (body_at (type_at 7) b)
    (Reads-body (ByStep 7) (type_at 7) (Reads-type 7) (type_some 7) (type_solid 7) (type_apart 7) b
    (λ r s. plain_letter place oneway b begins e e' r s))))

-- some byte begins an outermost type
pub outer_some : (place : Place) (oneway : Bool) → Passes (begins_outermost place oneway)
outer_some place true = record { byte = 118; small = omega arith; passes = refl }
outer_some place false = record { byte = 99; small = omega arith; passes = refl }

-- an outermost type is read exactly
pub Reads-outer : (place : Place) (oneway : Bool)
    → Reads (OuterByStep place oneway) (outermost_at place oneway)
unfolding outermost_at
Reads-outer place oneway =
    Reads-then (Byte (begins_outermost place oneway)) OuterBody
    (byte_of (begins_outermost place oneway) (why_no_type 8)) outermost_body_at
    (Reads-byte (begins_outermost place oneway) (why_no_type 8) (outer_some place oneway))
    (λ b text g. Reads-outer_body place oneway b g.passes)

-- ---- what is read is a type that may stand there

-- v stands as a result alone
pub void_side : (u v : Bool) → ((u && true) || (v && false)) ≡ true → u ≡ true
void_side true v h = refl
void_side false true h = absurd cc
void_side false false h = absurd cc

-- ^ stands as an argument alone
pub pointer_side : (u v : Bool) → ((u && false) || (v && true)) ≡ true → v ≡ true
pointer_side true true h = refl
pointer_side true false h = absurd cc
pointer_side false true h = refl
pointer_side false false h = absurd cc

-- v is read where a result may stand
pub void_stands : (place : Place) (oneway : Bool) → (oneway ≡ true → may_return place ≡ true)
    → begins_outermost place oneway 118 ≡ true → may_return place ≡ true
void_stands place true may e = may refl
void_stands place false may e = void_side (may_return place) (may_point place) e

-- ^ is read where an argument may stand, with no V before it
pub pointer_stands : (place : Place) (oneway : Bool) → begins_outermost place oneway 94 ≡ true
    → (oneway ≡ false) × (may_point place ≡ true)
pointer_stands place true e = absurd cc
pointer_stands place false e = (refl, pointer_side (may_return place) (may_point place) e)

-- behind V nothing but v is read
pub not_oneway : (place : Place) (oneway : Bool) (b : ℕ) → eqb b 118 ≡ false
    → begins_outermost place oneway b ≡ true → oneway ≡ false
not_oneway place true b p e = let no : false ≡ true = sym p ∙ e in absurd (false≢true no)
not_oneway place false b p e = refl

-- a text spells an outermost type that may stand at a place
pub record Outer (place : Place) (oneway : Bool) (text : List ℕ) (x : OutermostType) : Type 0 where
  pub spelled : text ≡ outermost_spelling x
  pub stands : MayStand place oneway x

-- what is read is the spelling of a type that may stand there
pub outer_is : (place : Place) (oneway : Bool) (text : List ℕ) (x : OutermostType)
    → (oneway ≡ true → may_return place ≡ true) → OuterByStep place oneway text x
    → Outer place oneway text x
outer_is place oneway text x may g =
    let made = first (eqb g.value 118) refl g.second in
    record { spelled = front ∙ made.spelled; stands = made.stands }
  where
    front : text ≡ g.value ∷ g.back
    front = g.parts ∙ ap (λ (w : List ℕ). w ++ g.back) g.first.alone

    void : eqb g.value 118 ≡ true → Done Void g.back x → Outer place oneway (g.value ∷ g.back) x
    void p h =
        let byte = eqb-true g.value 118 p in
        let begins =
        subst (λ (b : ℕ). begins_outermost place oneway b ≡ true) byte g.first.passes in
        let made : Outer place oneway (g.value ∷ g.back) Void = record {
          spelled = ap (λ (c : ℕ). c ∷ g.back) byte ∙ ap (λ (w : List ℕ). 118 ∷ w) h.nothing;
          stands = void_stands place oneway may begins;
        } in
        subst (Outer place oneway (g.value ∷ g.back)) h.same made

    pointer : eqb g.value 94 ≡ true → Mapped Pointer (ByStep 7) g.back x
        → Outer place oneway (g.value ∷ g.back) x
    pointer q h =
        let byte = eqb-true g.value 94 q in
        let begins =
        subst (λ (b : ℕ). begins_outermost place oneway b ≡ true) byte g.first.passes in
        let may = pointer_stands place oneway begins in
        let t = type_is 7 g.back h.value h.spelled in
        let made : Outer place oneway (g.value ∷ g.back) (Pointer h.value) = record {
          spelled = ap (λ (c : ℕ). c ∷ g.back) byte ∙ ap (λ (w : List ℕ). 94 ∷ w) t.spelled;
          stands = (may.0, may.1, t.within);
        } in
        subst (Outer place oneway (g.value ∷ g.back)) h.same made

    plain : eqb g.value 118 ≡ false → eqb g.value 94 ≡ false
        → Mapped Plain (Body (ByStep 7) g.value) g.back x
        → Outer place oneway (g.value ∷ g.back) x
    plain p q h =
        let t = body_is (ByStep 7) 7 (λ text y k. type_is 7 text y k) g.value g.back h.value
        (λ r s. plain_letter place oneway g.value g.first.passes p q r s) h.spelled in
        let made : Outer place oneway (g.value ∷ g.back) (Plain h.value) = record {
          spelled = t.spelled;
          stands = (not_oneway place oneway g.value p g.first.passes, t.within);
        } in
        subst (Outer place oneway (g.value ∷ g.back)) h.same made

    second : (t : Bool) → eqb g.value 118 ≡ false → eqb g.value 94 ≡ t
        → Either t (Mapped Pointer (ByStep 7)) (Mapped Plain (Body (ByStep 7) g.value)) g.back x
        → Outer place oneway (g.value ∷ g.back) x
    second true p q h = pointer q h
    second false p q h = plain p q h

    first : (t : Bool) → eqb g.value 118 ≡ t
        → Either t (Done Void)
        (Either (g.value == 94) (Mapped Pointer (ByStep 7))
        (Mapped Plain (Body (ByStep 7) g.value))) g.back x
        → Outer place oneway (g.value ∷ g.back) x
    first true p h = void p h
    first false p h = second (eqb g.value 94) p refl h

-- ---- and a type that may stand there is read

-- v begins a type where a result may stand
pub void_begins : (place : Place) (oneway : Bool) → may_return place ≡ true
    → begins_outermost place oneway 118 ≡ true
void_begins place true e = refl
void_begins place false e = rw e refl

-- no other type begins with v or ^
pub begins_other : (b : ℕ) → begins_type 8 b ≡ true → (eqb b 118 ≡ false) × (eqb b 94 ≡ false)
begins_other b e = (
  not_true (eqb b 118) (types_all (λ c. not (eqb c 118)) refl refl refl 8 b e),
  not_true (eqb b 94) (types_all (λ c. not (eqb c 94)) refl refl refl 8 b e),
)

-- the spelling of a type that may stand there is read
pub outer_read : (place : Place) (oneway : Bool) (x : OutermostType) → MayStand place oneway x
    → OuterByStep place oneway (outermost_spelling x) x
outer_read place oneway Void may = record {
  value = 118;
  front = 118 ∷ [];
  back = [];
  parts = refl;
  first = record { alone = refl; passes = void_begins place oneway may; small = omega arith };
  second = record { nothing = refl; same = refl };
}
outer_read place true (Pointer t) may = let no = may.0 in absurd cc
outer_read place false (Pointer t) may = record {
  value = 94;
  front = 94 ∷ [];
  back = _;
  parts = refl;
  first = record { alone = refl; passes = pointed (may_return place) may.1; small = omega arith };
  second = record { value = t; spelled = is_read t 7 may.2; same = refl };
}
  where
    pointed : (u : Bool) → may_point place ≡ true
        → ((u && false) || (may_point place && true)) ≡ true
    pointed true e = rw e refl
    pointed false e = rw e refl
outer_read place true (Plain t) may = let no = may.0 in absurd cc
outer_read place false (Plain t) may =
    let g = is_read t 8 may.1 in
    let other = begins_other g.value g.first.passes in
    let p = other.0 in
    let q = other.1 in
    let begins = g.first.passes in
    record {
      value = g.value;
      front = g.front;
      back = g.back;
      parts = g.parts;
      first = record { alone = g.first.alone; passes = rw begins refl; small = g.first.small };
      second = rw (p, q) (record { value = t; spelled = g.second; same = refl });
    }

-- ---- the first byte

-- the first byte of an outermost type
pub record BeginsOuter (place : Place) (oneway : Bool) (text : List ℕ) : Type 0 where
  pub byte : ℕ
  pub rest : List ℕ
  pub parts : text ≡ byte ∷ rest
  pub begins : begins_outermost place oneway byte ≡ true
  pub small : byte < 256

-- the spelling of a type that may stand there begins with a byte that may
pub outer_begins : (place : Place) (oneway : Bool) (x : OutermostType) → MayStand place oneway x
    → BeginsOuter place oneway (outermost_spelling x)
outer_begins place oneway x may =
    let g = outer_read place oneway x may in
    record {
      byte = g.value;
      rest = g.back;
      parts = g.parts ∙ ap (λ (w : List ℕ). w ++ g.back) g.first.alone;
      begins = g.first.passes;
      small = g.first.small;
    }
