-- Encodings are read exactly.
use Rattle.do_sig.specs.declared.qualifiers.Direction.TheVariants as ways
use Rattle.do_sig.specs.declared.qualifiers.Passing.TheVariants as passings
use Rattle.std.proofs.Common.{◌≡◌, ℕ, ◌<◌, Bool, true, false, cond, List, [], ◌∷◌, ◌++◌, Option}
use Rattle.std.proofs.Common.{Some, None, refl, sym, ap, subst, arith}
use Rattle.std.{specs.Prelude.{◌==◌, ◌&&◌, not}, proofs.lemmas.Bool.false≢true}
use Rattle.do_grammar.specs.{Reader.{Step, goes, leaves, fails}, Grammar.Begins}
use Rattle.do_grammar.specs.Forms.{Mapped, OnStep, Scans, Accepts}
use Rattle.do_grammar.proofs.reads.{ExactReader.{Reads, Reads-as}, FormsExact.Reads-mapped}
use Rattle.do_grammar.proofs.reads.ScanExact.{Reads-scan, Reads-scanned}
use Rattle.do_grammar.proofs.reads.WholeExact.{ReadsWhole, Reads-then_whole}
use Rattle.do_sig.specs.declared.fault.Kind.{Kind, TheVariants.BadChar}
use Rattle.do_sig.specs.declared.outermost.place.Place.{Place, TheVariants.Alone}
use Rattle.do_sig.specs.declared.qualifiers.{Qualifiers.Qualifiers, Direction.Direction}
use Rattle.do_sig.specs.declared.qualifiers.Passing.{Passing}
use Rattle.do_sig.specs.declared.value_type.Scalar.TheVariants.{SignedChar}
use Rattle.do_sig.specs.declared.value_type.ValueType.TheVariants.{Simple}
use Rattle.do_sig.specs.declared.value_type.OutermostType.{OutermostType, TheVariants.{Void, Plain}}
use Rattle.do_sig.specs.{Letters.is_qualifier, Places.{may_return, MayStand}}
use Rattle.do_sig.specs.{MethodTypes.{QualifiedType, IsEncodingOf}, Bare.bare}
use Rattle.do_sig.specs.{Offsets.{fresh, offset_ends, last_step}, Marks.{free_way, free_passing}}
use Rattle.do_sig.specs.{Marks.{marked, goes_or_fails, qualifier_step}, Encodings.IsQualified}
use Rattle.do_sig.specs.{Encodings.{IsEncodingAt, IsEncoding}, reading.Offsets.after_offset}
use Rattle.do_sig.specs.reading.{Offsets.nothing_left, Outermost.{outermost_at, qualified_at}}
use Rattle.do_sig.{specs.reading.Outermost.{encoding_at, alone_at}, proofs.OffsetExact.Reads-last}
use Rattle.do_sig.proofs.OuterExact.{OuterByStep, Reads-outer, outer_is, outer_read}

-- ---- qualifiers

-- what holds of both sides of a choice holds of the choice
pick : (P : Qualifiers → Type 0) (t : Bool) (a b : Option Qualifiers)
    → ((u : Qualifiers) → a ≡ Some u → P u) → ((u : Qualifiers) → b ≡ Some u → P u)
    → (u : Qualifiers) → cond t a b ≡ Some u → P u
pick P true a b f g u e = f u e
pick P false a b f g u e = g u e

-- two values of an option that are the same
some_same : (q u : Qualifiers) → Some q ≡ Some u → q ≡ u
some_same q u e = cc

-- a direction more changes nothing else
way_same : (d : Direction) (q u : Qualifiers) → free_way d q ≡ Some u → q ≡ u
way_same ways.Unmarked q u e = some_same q u e
way_same ways.In q u e = absurd cc
way_same ways.InOut q u e = absurd cc
way_same ways.Out q u e = absurd cc

-- a way of passing more changes nothing else
passing_same : (p : Passing) (q u : Qualifiers) → free_passing p q ≡ Some u → q ≡ u
passing_same passings.Unmarked q u e = some_same q u e
passing_same passings.ByCopy q u e = absurd cc
passing_same passings.ByRef q u e = absurd cc

-- a qualifier that goes on adds its letter
goes_marked : (t : Bool) (o : Option Qualifiers) (u : Qualifiers)
    → cond {A = Step Qualifiers Kind} t (goes_or_fails o) leaves ≡ goes u → o ≡ Some u
goes_marked true None u e = absurd cc
goes_marked true (Some q) u e = cc
goes_marked false o u e = absurd cc

-- a type of one letter: v behind V, else c
letter : Bool → ℕ
letter true = 118
letter false = 99

-- and the type itself
of_letter : Bool → OutermostType
of_letter true = Void
of_letter false = Plain (Simple SignedChar)

-- it is a byte
letter_small : (t : Bool) → letter t < 256
unfolding letter
letter_small true = omega arith
letter_small false = omega arith

-- it is no qualifier
letter_leaves : (place : Place) (q : Qualifiers) (t : Bool)
    → qualifier_step place q (letter t) ≡ leaves
unfolding letter
letter_leaves place q true = refl
letter_leaves place q false = refl

-- it spells its type
letter_spells : (place : Place) (t : Bool) → OuterByStep place t (letter t ∷ []) (of_letter t)
unfolding letter of_letter
letter_spells place true = record {
  value = 118;
  front = 118 ∷ [];
  back = [];
  parts = refl;
  first = record { alone = refl; passes = refl; small = omega arith };
  second = record { nothing = refl; same = refl };
}
letter_spells place false = record {
  value = 99;
  front = 99 ∷ [];
  back = [];
  parts = refl;
  first = record { alone = refl; passes = refl; small = omega arith };
  second = record {
    value = Simple SignedChar;
    spelled = record { nothing = refl; same = refl };
    same = refl;
  };
}

module _ (place : Place) where
  -- V stands before results alone
  pub Lawful : Qualifiers → Type 0
  Lawful q = q.oneway ≡ true → may_return place ≡ true

  -- the same qualifiers are lawful as well
  kept : (q u : Qualifiers) → q ≡ u → Lawful q → Lawful u
  kept q u e good = subst Lawful e good

  -- qualifiers are lawful where V stands before results alone
  pub lawful : (q : Qualifiers) → (q.oneway ≡ true → may_return place ≡ true) → Lawful q
  unfolding Lawful
  lawful q may = may

  -- so are those with V
  oneway_lawful : (q u : Qualifiers)
      → cond (may_return place && not q.oneway) (Some (record q { oneway = true })) None ≡ Some u
      → Lawful u
  unfolding Lawful
  oneway_lawful q u e = λ h. go (may_return place) (not q.oneway) e
    where
      go : (s t : Bool) → cond (s && t) (Some (record q { oneway = true })) None ≡ Some u → s ≡ true
      go true t k = refl
      go false t k = absurd cc

  -- so are those with r
  constant_lawful : (q u : Qualifiers) → Lawful q
      → cond q.constant None (Some (record q { constant = true })) ≡ Some u → Lawful u
  unfolding Lawful kept
  constant_lawful q u good e = go q.constant e
    where
      go : (t : Bool) → cond t None (Some (record q { constant = true })) ≡ Some u → Lawful u
      go true k = absurd cc
      go false k =
          kept (record q { constant = true }) u (some_same (record q { constant = true }) u k) good

  -- so are those with a direction more
  way_lawful : (q u : Qualifiers) (d : Direction) → Lawful q
      → free_way q.direction (record q { direction = d }) ≡ Some u → Lawful u
  unfolding Lawful kept
  way_lawful q u d good e =
      let next = record q { direction = d } in kept next u (way_same q.direction next u e) good

  -- so are those with a way of passing more
  passing_lawful : (q u : Qualifiers) (p : Passing) → Lawful q
      → free_passing q.passing (record q { passing = p }) ≡ Some u → Lawful u
  unfolding Lawful kept
  passing_lawful q u p good e =
      let next = record q { passing = p } in kept next u (passing_same q.passing next u e) good

  -- no letter more changes that
  stays : (q u : Qualifiers) (b : ℕ) → Lawful q → marked place q b ≡ Some u → Lawful u
  stays q u b good e =
      pick Lawful (b == 86) _ _ (λ u e. oneway_lawful q u e)
      (pick Lawful (b == 114) _ _ (λ u e. constant_lawful q u good e)
      (pick Lawful (b == 110) _ _ (λ u e. way_lawful q u ways.In good e)
      (pick Lawful (b == 78) _ _ (λ u e. way_lawful q u ways.InOut good e)
      (pick Lawful (b == 111) _ _ (λ u e. way_lawful q u ways.Out good e)
      (pick Lawful (b == 79) _ _ (λ u e. passing_lawful q u passings.ByCopy good e)
      (λ u e. passing_lawful q u passings.ByRef good e))))))
      u e

  -- a type behind these qualifiers, as it is read
  abbrev ByMark : Qualifiers → List ℕ → QualifiedType → Type 0
  ByMark q = Mapped (λ t. record { qualifiers = q; value_type = t }) (OuterByStep place q.oneway)

  -- qualifiers and a type, as they are read
  abbrev Steps : Qualifiers → List ℕ → QualifiedType → Type 0
  Steps q text e = Scans (qualifier_step place) ByMark q text e

  -- the same, as they are spelled
  abbrev Behind : Qualifiers → List ℕ → QualifiedType → Type 0
  Behind q text e = Scans (qualifier_step place) (IsQualified place) q text e

  -- the type behind lawful qualifiers is spelled
  at_type : (q : Qualifiers) (text : List ℕ) (e : QualifiedType) → Lawful q → ByMark q text e
      → IsQualified place q text e
  unfolding Lawful
  at_type q text e good k =
      let o = outer_is place q.oneway text k.value good k.spelled in
      let made : IsQualified place q text (record { qualifiers = q; value_type = k.value }) =
      record { marked = refl; spelled = o.spelled; stands = o.stands } in
      subst (IsQualified place q text) k.same made

  -- what is read by steps is spelled
  to_spelled : (text : List ℕ) (q : Qualifiers) (e : QualifiedType) → Lawful q → Steps q text e
      → Behind q text e
  to_spelled [] q e good g = absurd g
  to_spelled (b ∷ text) q e good g =
      (g.0, on (λ u k h. to_spelled text u e k h) (qualifier_step place q b) refl g.1)
    where
      on : ((u : Qualifiers) → Lawful u → Steps u text e → Behind u text e)
          → (t : Step Qualifiers Kind) → qualifier_step place q b ≡ t
          → OnStep t (λ u. Steps u text e) (ByMark q (b ∷ text) e)
          → OnStep t (λ u. Behind u text e) (IsQualified place q (b ∷ text) e)
      on again (goes u) h k =
          again u (stays q u b good (goes_marked (is_qualifier b) (marked place q b) u h)) k
      on again leaves h k = at_type q (b ∷ text) e good k
      on again (fails k) h l = absurd l

  -- the type that is spelled behind qualifiers is read
  by_mark : (q : Qualifiers) (text : List ℕ) (e : QualifiedType) → IsQualified place q text e
      → ByMark q text e
  by_mark q text e k =
      let stands : MayStand place q.oneway e.value_type =
      subst (λ (u : Qualifiers). MayStand place u.oneway e.value_type) (sym k.marked) k.stands in
      let read = outer_read place q.oneway e.value_type stands in
      record {
        value = e.value_type;
        spelled =
            subst (λ (w : List ℕ). OuterByStep place q.oneway w e.value_type) (sym k.spelled) read;
        same =
            ap (λ (u : Qualifiers). record { qualifiers = u; value_type = e.value_type }) k.marked;
      }

  -- and what is spelled is read by steps
  to_steps : (text : List ℕ) (q : Qualifiers) (e : QualifiedType) → Behind q text e
      → Steps q text e
  to_steps [] q e g = absurd g
  to_steps (b ∷ text) q e g =
      (g.0, on (λ u h. to_steps text u e h) (qualifier_step place q b) g.1)
    where
      on : ((u : Qualifiers) → Behind u text e → Steps u text e) → (t : Step Qualifiers Kind)
          → OnStep t (λ u. Behind u text e) (IsQualified place q (b ∷ text) e)
          → OnStep t (λ u. Steps u text e) (ByMark q (b ∷ text) e)
      on again (goes u) k = again u k
      on again leaves k = by_mark q (b ∷ text) e k
      on again (fails k) l = absurd l

  -- a type behind qualifiers is read exactly
  Reads-mark : (q : Qualifiers) → Reads (ByMark q) (qualified_at place q)
  Reads-mark q =
      Reads-mapped (λ t. record { qualifiers = q; value_type = t }) (OuterByStep place q.oneway)
      (outermost_at place q.oneway) (Reads-outer place q.oneway)

  -- from any qualifiers on an encoding can be spelled
  live : (q : Qualifiers) → Begins (Scans (qualifier_step place) ByMark q) []
  live q = record {
    more = letter q.oneway ∷ [];
    value = record { qualifiers = q; value_type = of_letter q.oneway };
    spelled = (
      letter_small q.oneway,
      rw (letter_leaves place q q.oneway) (record {
        value = of_letter q.oneway;
        spelled = letter_spells place q.oneway;
        same = refl;
      }),
    );
  }

  -- nothing is no type
  solid : (q : Qualifiers) (x : QualifiedType) → ByMark q [] x → ⊥
  solid q x g =
      let e = g.spelled.first.alone in
      let p = g.spelled.parts in
      let c = ap (λ (w : List ℕ). w ++ g.spelled.back) e in
      absurd cc

  -- no qualifiers are lawful
  none_lawful : Lawful bare
  unfolding Lawful
  none_lawful h = absurd (false≢true h)

  -- an encoding at a place is read exactly
  pub Reads-encoding_at : Reads (IsEncodingAt place) (encoding_at place)
  unfolding encoding_at
  Reads-encoding_at =
      Reads-as (Scans (qualifier_step place) ByMark bare) (IsEncodingAt place) (encoding_at place)
      (encoding_at place) (λ text e g. to_spelled text bare e none_lawful g)
      (λ text e g. to_steps text bare e g) (λ bytes. refl)
      (Reads-scanned (Scans (qualifier_step place) ByMark bare) (qualifier_step place)
      (qualified_at place) bare
      (Reads-scan (qualifier_step place) ByMark (qualified_at place) (λ q. Unit {0})
      (λ q b t good e. tt) (λ q good. live q) (λ q b good e. Reads-mark q) solid bare tt))

  -- what is spelled at a place may stand there
  pub encoding_stands : (text : List ℕ) (q : Qualifiers) (e : QualifiedType) → Behind q text e
      → IsEncodingOf place e
  encoding_stands [] q e g = absurd g
  encoding_stands (b ∷ text) q e g =
      on (λ u h. encoding_stands text u e h) (qualifier_step place q b) g.1
    where
      on : ((u : Qualifiers) → Behind u text e → IsEncodingOf place e)
          → (t : Step Qualifiers Kind)
          → OnStep t (λ u. Behind u text e) (IsQualified place q (b ∷ text) e)
          → IsEncodingOf place e
      on again (goes u) k = again u k
      on again leaves k = k.stands
      on again (fails k) l = absurd l

-- ---- an encoding by itself

-- an encoding by itself is read exactly
pub Reads-alone : ReadsWhole IsEncoding alone_at
unfolding alone_at
Reads-alone =
    Reads-then_whole (IsEncodingAt Alone)
    (λ e. Accepts (last_step (λ b. BadChar)) (offset_ends e) fresh) (encoding_at Alone)
    (λ e. after_offset (nothing_left (λ b. BadChar) e)) (Reads-encoding_at Alone)
    (λ e text g. Reads-last (λ b. BadChar) e)
