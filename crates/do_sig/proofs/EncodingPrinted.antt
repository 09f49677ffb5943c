-- What is printed of an encoding that may stand at a place spells it.
use Rattle.do_sig.specs.declared.qualifiers.Direction.TheVariants as ways
use Rattle.do_sig.specs.declared.qualifiers.Passing.TheVariants as passings
use Rattle.std.proofs.Common.{◌≡◌, ℕ, Bool, true, false, eqb, leb, List, [], ◌∷◌, ◌++◌, Ok, refl}
use Rattle.std.proofs.Common.{sym, ap, subst, ◌∙◌, append_assoc, arith}
use Rattle.std.specs.Prelude.{◌||◌, ◌&&◌, not}
use Rattle.std.proofs.lemmas.{Bool.{false≢true, eqb-true}, List.append-nil}
use Rattle.do_grammar.specs.{Reader.{leaves, scan_to}, Grammar.IsBytes, Forms.Scans}
use Rattle.do_sig.specs.declared.outermost.place.Place.{Place, TheVariants.Alone}
use Rattle.do_sig.specs.declared.qualifiers.{Qualifiers.Qualifiers, Direction.Direction}
use Rattle.do_sig.specs.declared.qualifiers.Passing.{Passing}
use Rattle.do_sig.specs.declared.value_type.OutermostType.{OutermostType}
use Rattle.do_sig.specs.declared.value_type.OutermostType.TheVariants.{Void, Pointer, Plain}
use Rattle.do_sig.specs.{Letters.is_qualifier, Places.{may_return, may_point, MayStand}}
use Rattle.do_sig.specs.{MethodTypes.{QualifiedType, IsEncodingOf}, Bare.bare, Blame.begins_type}
use Rattle.do_sig.specs.Marks.{qualifier_step}
use Rattle.do_sig.specs.Spelling.{outermost_spelling, letter_if, way_letters, passing_letters}
use Rattle.do_sig.specs.Spelling.{qualifier_letters, encoding_spelling}
use Rattle.do_sig.specs.Encodings.{IsQualified, IsEncodingAt, IsEncoding}
use Rattle.do_sig.specs.reading.Outermost.{begins_outermost, outermost_at, encoding_at}
use Rattle.do_sig.proofs.{OuterExact.outer_begins, EncodingExact.Reads-encoding_at}
use Rattle.do_sig.proofs.{EncodingExact.encoding_stands, TestsPass.not_true, ByteAmong.types_all}

-- ---- the first byte of an outermost type

-- no qualifier, no digit and no sign
pub record IsFree (b : ℕ) : Type 0 where
  pub no_mark : is_qualifier b ≡ false
  pub no_digit : (leb 48 b && leb b 57) ≡ false
  pub no_sign : (eqb b 43 || eqb b 45) ≡ false

-- the first byte of a type is none of these
type_free : (b : ℕ) → begins_type 8 b ≡ true → IsFree b
type_free b e = record {
  no_mark =
      not_true (is_qualifier b) (types_all (λ c. not (is_qualifier c)) refl refl refl 8 b e);
  no_digit =
      not_true (leb 48 b && leb b 57)
      (types_all (λ c. not (leb 48 c && leb c 57)) refl refl refl 8 b e);
  no_sign =
      not_true (eqb b 43 || eqb b 45)
      (types_all (λ c. not (eqb c 43 || eqb c 45)) refl refl refl 8 b e);
}

-- v is none of these
void_free : (b : ℕ) → eqb b 118 ≡ true → IsFree b
void_free b e = subst IsFree (sym (eqb-true b 118 e))
    (record { no_mark = refl; no_digit = refl; no_sign = refl })

-- ^ is none of these
pointer_free : (b : ℕ) → eqb b 94 ≡ true → IsFree b
pointer_free b e = subst IsFree (sym (eqb-true b 94 e))
    (record { no_mark = refl; no_digit = refl; no_sign = refl })

-- an outermost type begins with none of these
pub outer_free : (place : Place) (oneway : Bool) (b : ℕ) → begins_outermost place oneway b ≡ true
    → IsFree b
outer_free place true b e = void_free b e
outer_free place false b e =
    go (begins_type 8 b) (may_return place) (eqb b 118) (may_point place) (eqb b 94)
    refl refl refl e
  where
    go : (s t u v w : Bool) → begins_type 8 b ≡ s → eqb b 118 ≡ u → eqb b 94 ≡ w
        → (s || ((t && u) || (v && w))) ≡ true → IsFree b
    go true t u v w p q r h = type_free b p
    go false true true v w p q r h = void_free b q
    go false true false true true p q r h = pointer_free b r
    go false true false true false p q r h = absurd cc
    go false true false false w p q r h = absurd cc
    go false false u true true p q r h = pointer_free b r
    go false false u true false p q r h = absurd cc
    go false false u false w p q r h = absurd cc

-- what is no qualifier ends the qualifiers
no_mark_leaves : (place : Place) (q : Qualifiers) (b : ℕ) → is_qualifier b ≡ false
    → qualifier_step place q b ≡ leaves
no_mark_leaves place q b e = rw e refl

-- V stands before results alone
stands_lawful : (place : Place) (oneway : Bool) (x : OutermostType) → MayStand place oneway x
    → oneway ≡ true → may_return place ≡ true
stands_lawful place oneway Void may e = may
stands_lawful place oneway (Pointer t) may e = absurd (false≢true (sym may.0 ∙ e))
stands_lawful place oneway (Plain t) may e = absurd (false≢true (sym may.0 ∙ e))

-- ---- qualifiers

module _ (place : Place) where
  -- qualifiers and a type, as they are spelled
  abbrev Behind : Qualifiers → List ℕ → QualifiedType → Type 0
  Behind q text e = Scans (qualifier_step place) (IsQualified place) q text e

  -- qualifiers by their four parts
  abbrev marks : Bool → Bool → Direction → Passing → Qualifiers
  marks o c d p = record { oneway = o; constant = c; direction = d; passing = p }

  -- the letter of a way of passing leads to it
  with_passing : (o c : Bool) (d : Direction) (p : Passing) (text : List ℕ) (e : QualifiedType)
      → Behind (marks o c d p) text e
      → Behind (marks o c d passings.Unmarked) (passing_letters p ++ text) e
  with_passing o c d passings.Unmarked text e h = h
  with_passing o c d passings.ByCopy text e h = (omega arith, h)
  with_passing o c d passings.ByRef text e h = (omega arith, h)

  -- the letter of a direction leads to it
  with_way : (o c : Bool) (d : Direction) (text : List ℕ) (e : QualifiedType)
      → Behind (marks o c d passings.Unmarked) text e
      → Behind (marks o c ways.Unmarked passings.Unmarked) (way_letters d ++ text) e
  with_way o c ways.Unmarked text e h = h
  with_way o c ways.In text e h = (omega arith, h)
  with_way o c ways.InOut text e h = (omega arith, h)
  with_way o c ways.Out text e h = (omega arith, h)

  -- r leads to a constant
  with_constant : (o c : Bool) (text : List ℕ) (e : QualifiedType)
      → Behind (marks o c ways.Unmarked passings.Unmarked) text e
      → Behind (marks o false ways.Unmarked passings.Unmarked) (letter_if c 114 ++ text) e
  with_constant o true text e h = (omega arith, h)
  with_constant o false text e h = h

  -- V leads to a oneway result
  with_oneway : (o : Bool) (text : List ℕ) (e : QualifiedType)
      → (o ≡ true → may_return place ≡ true)
      → Behind (marks o false ways.Unmarked passings.Unmarked) text e
      → Behind bare (letter_if o 86 ++ text) e
  with_oneway true text e may h = let m = may refl in (omega arith, rw m h)
  with_oneway false text e may h = h

  -- the letters of qualifiers lead to them
  with_letters : (q : Qualifiers) (text : List ℕ) (e : QualifiedType)
      → (q.oneway ≡ true → may_return place ≡ true) → Behind q text e
      → Behind bare (qualifier_letters q ++ text) e
  with_letters q text e good h =
      let a = letter_if q.oneway 86 in
      let b = letter_if q.constant 114 in
      let c = way_letters q.direction in
      let d = passing_letters q.passing in
      let later : (b ++ (c ++ d)) ++ text ≡ b ++ (c ++ (d ++ text)) =
      append_assoc b (c ++ d) text ∙ ap (λ (w : List ℕ). b ++ w) (append_assoc c d text) in
      let grouped : (a ++ (b ++ (c ++ d))) ++ text ≡ a ++ (b ++ (c ++ (d ++ text))) =
      append_assoc a (b ++ (c ++ d)) text ∙ ap (λ (w : List ℕ). a ++ w) later in
      subst (λ (w : List ℕ). Behind bare w e) (sym grouped)
      (with_oneway q.oneway (b ++ (c ++ (d ++ text))) e good
      (with_constant q.oneway q.constant (c ++ (d ++ text)) e
      (with_way q.oneway q.constant q.direction (d ++ text) e
      (with_passing q.oneway q.constant q.direction q.passing text e h))))

  -- what is printed of an encoding that may stand there spells it there
  pub encoding_printed : (e : QualifiedType) → IsEncodingOf place e
      → IsEncodingAt place (encoding_spelling e) e
  encoding_printed e may =
      let q = e.qualifiers in
      let text = outermost_spelling e.value_type in
      let first = outer_begins place q.oneway e.value_type may in
      let free = outer_free place q.oneway first.byte first.begins in
      let leave = no_mark_leaves place q first.byte free.no_mark in
      let here : IsQualified place q text e =
      record { marked = refl; spelled = refl; stands = may } in
      let there : IsQualified place q (first.byte ∷ first.rest) e =
      subst (λ (w : List ℕ). IsQualified place q w e) first.parts here in
      let behind : Behind q (first.byte ∷ first.rest) e = (first.small, rw leave there) in
      with_letters q text e (stands_lawful place q.oneway e.value_type may)
      (subst (λ (w : List ℕ). Behind q w e) (sym first.parts) behind)

-- what may stand somewhere may stand by itself
pub stands_alone : (place : Place) (oneway : Bool) (x : OutermostType) → MayStand place oneway x
    → MayStand Alone oneway x
stands_alone place oneway Void may = refl
stands_alone place oneway (Pointer t) may = (may.0, refl, may.2)
stands_alone place oneway (Plain t) may = may

-- what is read at a place may stand by itself
pub encoding_lawful : (place : Place) (bytes rest after : List ℕ) (q : Qualifiers)
    (t : OutermostType) → IsBytes bytes
    → scan_to (qualifier_step place) bare bytes ≡ Ok (q, rest)
    → outermost_at place q.oneway rest ≡ Ok (t, after)
    → IsEncodingOf Alone (record { qualifiers = q; value_type = t })
unfolding encoding_at
encoding_lawful place bytes rest after q t small marks outer =
    let e : QualifiedType = record { qualifiers = q; value_type = t } in
    let read : encoding_at place bytes ≡ Ok (e, after) = rw (marks, outer) refl in
    let took = (Reads-encoding_at place).sound bytes e after small read in
    stands_alone place q.oneway t (encoding_stands place took.text bare e took.spelled)

-- what is printed of an encoding spells it
pub alone_printed : (text : List ℕ) (e : QualifiedType) → text ≡ encoding_spelling e
    → IsEncodingOf Alone e → IsEncoding text e
alone_printed text e same may =
    record {
      value = e;
      front = encoding_spelling e;
      back = [];
      parts = same ∙ sym (append-nil (encoding_spelling e));
      first = encoding_printed Alone e may;
      second = refl;
    }
