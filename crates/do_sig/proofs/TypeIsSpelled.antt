-- The steps of reading a type lead over its spelling, and over no other text.
use Rattle.std.proofs.Common.{◌≡◌, ℕ, zero, suc, ◌+◌, ◌-◌, ◌*◌, ◌≤◌, Bool, true, false, eqb, leb}
use Rattle.std.proofs.Common.{List, [], ◌∷◌, ◌++◌, map, Option, refl, sym, ap, subst, ◌∙◌}
use Rattle.std.{proofs.Common.{append_assoc, arith}, specs.{Prelude.{◌&&◌, ◌==◌}, List.flat_map}}
use Rattle.std.{specs.{List.list_all, Fmt.decimal}, proofs.lemmas.Bool.{eqb-true, le-leb}}
use Rattle.do_grammar.specs.{Reader.{Step, goes, leaves, fails}, Forms.{Done, Either, OnStep}}
use Rattle.do_grammar.{specs.Forms.{Scans, Untils}, proofs.texts.DecExact.decimal_more}
use Rattle.do_sig.specs.declared.fault.Kind.{Kind, TheVariants.{Unsupported, BadChar}}
use Rattle.do_sig.specs.declared.value_type.{Scalar.Scalar, ValueType.{ValueType, Array, Structure}}
use Rattle.do_sig.specs.{declared.value_type.ValueType.TheVariants.Simple, Letters.is_letter}
use Rattle.do_sig.specs.{Letters.scalar_of, Types.{type_spelling, is_structure_name, is_within}}
use Rattle.do_sig.specs.{Types.IsType, reading.Types.{count_step, name_step, goes_on_name}}
use Rattle.do_sig.{specs.reading.Types.is_some_name, proofs.ScalarLetters.letter_named}
use Rattle.do_sig.proofs.{TypeExact.{is_some_letter, is_only_letter}, TypeBySteps.ArrayRest}
use Rattle.do_sig.proofs.TypeBySteps.{Counted, StructureRest, Named, LetterRest, Body, ByStep}
use Rattle.do_sig.proofs.VariantSpelled.{spelling-Simple, spelling-Array, spelling-Structure}
use Rattle.do_sig.proofs.VariantSpelled.{within-Simple, within-Array, within-Structure}
use Rattle.do_sig.proofs.StepTests.{retext, count_goes, name_goes, name_leaves, within_count}
use Rattle.do_sig.proofs.{StepTests.{above_zero, one_digit}, NameGrows.{IsNameSoFar, name_grows}}
use Rattle.do_sig.proofs.{TestsPass.both, DigitTests.{digit_low, digit_high}}

module _ (T : List ℕ → ValueType → Type 0) (d : ℕ)
    (one : (text : List ℕ) (x : ValueType) → T text x → IsType d text x) where
  -- the rest of an array spells it
  array_is : (n : ℕ) (text : List ℕ) (x : ValueType) → n ≤ 1024 → ArrayRest T n text x
      → IsType (suc d) (91 ∷ (decimal n ++ text)) x
  array_is n text x small g =
      let last = eqb-true g.second.value 93 g.second.spelled.passes in
      let back : g.back ≡ 93 ∷ [] = g.second.spelled.alone ∙ ap (λ (c : ℕ). c ∷ []) last in
      let item = one g.front g.value g.first in
      let whole : text ≡ type_spelling g.value ++ 93 ∷ [] =
      g.parts ∙ ap (λ (w : List ℕ). w ++ g.back) item.spelled
      ∙ ap (λ (w : List ℕ). type_spelling g.value ++ w) back in
      let within = both (leb n 1024) (is_within g.value d) (le-leb n 1024 small) item.within in
      let made : IsType (suc d) (91 ∷ (decimal n ++ text)) (Array n g.value) = record {
        spelled =
            ap (λ (w : List ℕ). 91 ∷ (decimal n ++ w)) whole ∙ sym (spelling-Array n g.value);
        within = ap (λ (f : ℕ → Bool). f (suc d)) (within-Array n g.value) ∙ within;
      } in
      subst (IsType (suc d) (91 ∷ (decimal n ++ text))) g.second.same made

  -- the same of what is left of a count
  abbrev CountLater : List ℕ → ValueType → Type 0
  CountLater text x = (m : ℕ) → m ≤ 1024 → Scans count_step (ArrayRest T) m text x
      → IsType (suc d) (91 ∷ (decimal m ++ text)) x

  -- so does what is left of its count
  count_is : (text : List ℕ) (n : ℕ) (x : ValueType) → n ≤ 1024
      → Scans count_step (ArrayRest T) n text x → IsType (suc d) (91 ∷ (decimal n ++ text)) x
  count_is [] n x small g = absurd g
  count_is (b ∷ text) n x small g =
      on (λ m k h. count_is text m x k h) (count_step n b) refl g.1
    where
      more : CountLater text x → (u : ℕ) → count_step n b ≡ goes u
          → Scans count_step (ArrayRest T) u text x
          → IsType (suc d) (91 ∷ (decimal n ++ b ∷ text)) x
      more again u e h =
          let m = n * 10 + (b - 48) in
          let c = count_goes (leb 48 b && leb b 57) (eqb n 0) (leb m 1024) m u BadChar Unsupported
          e in
          let low = digit_low b c.0 in
          let high = digit_high b c.0 in
          let fits = within_count m c.2 in
          let digits : decimal m ≡ decimal n ++ b ∷ [] =
          decimal_more n b (above_zero n c.1) low high (omega arith) in
          let grouped : decimal m ++ text ≡ decimal n ++ b ∷ text =
          ap (λ (w : List ℕ). w ++ text) digits ∙ append_assoc (decimal n) (b ∷ []) text in
          retext (suc d) (91 ∷ (decimal n ++ b ∷ text)) (91 ∷ (decimal m ++ text)) x
          (ap (λ (w : List ℕ). 91 ∷ w) (sym grouped))
          (again m fits (subst (λ (v : ℕ). Scans count_step (ArrayRest T) v text x) (sym c.3) h))

      on : CountLater text x → (t : Step ℕ Kind) → count_step n b ≡ t
          → OnStep t (λ u. Scans count_step (ArrayRest T) u text x) (ArrayRest T n (b ∷ text) x)
          → IsType (suc d) (91 ∷ (decimal n ++ b ∷ text)) x
      on again (goes u) e h = more again u e h
      on again leaves e h = array_is n (b ∷ text) x small h
      on again (fails k) e h = absurd h

  -- so does all behind [
  counted_is : (text : List ℕ) (x : ValueType) → Counted T text x → IsType (suc d) (91 ∷ text) x
  counted_is text x g =
      let b = g.value in
      let low = digit_low b g.first.passes in
      let high = digit_high b g.first.passes in
      let front : g.front ≡ decimal (b - 48) = g.first.alone ∙ sym (one_digit b low high) in
      let parts : text ≡ decimal (b - 48) ++ g.back =
      g.parts ∙ ap (λ (w : List ℕ). w ++ g.back) front in
      retext (suc d) (91 ∷ text) (91 ∷ (decimal (b - 48) ++ g.back)) x
      (ap (λ (w : List ℕ). 91 ∷ w) parts)
      (count_is g.back (b - 48) x (omega arith) g.second)

  -- types up to } spell members that may stand there
  members_are : (ts : List ValueType) (text : List ℕ) → Untils 125 T text ts
      → (text ≡ flat_map (λ m. m) (map type_spelling ts) ++ 125 ∷ [])
      × (list_all (λ (member : ℕ → Bool). member d) (map is_within ts) ≡ true)
  members_are [] text g = (g, refl)
  members_are (t ∷ ts) text g =
      let first = one g.front t g.one in
      let later = members_are ts g.back g.others in
      let all = list_all (λ (member : ℕ → Bool). member d) (map is_within ts) in (
        g.parts ∙ ap (λ (w : List ℕ). w ++ g.back) first.spelled
            ∙ ap (λ (w : List ℕ). type_spelling t ++ w) later.0
            ∙ sym (append_assoc (type_spelling t) (flat_map (λ m. m) (map type_spelling ts))
            (125 ∷ [])),
        both (is_within t d) all first.within later.1,
      )

  -- the rest of a structure spells it
  structure_is : (s text : List ℕ) (x : ValueType) → is_structure_name s ≡ true
      → StructureRest T s text x → IsType (suc d) (123 ∷ (s ++ text)) x
  structure_is s text x name g =
      let byte = eqb-true g.value 61 g.first.passes in
      let front : g.front ≡ 61 ∷ [] = g.first.alone ∙ ap (λ (c : ℕ). c ∷ []) byte in
      let ts = g.second.value in
      let members = members_are ts g.back g.second.spelled in
      let whole : text ≡ 61 ∷ (flat_map (λ m. m) (map type_spelling ts) ++ 125 ∷ []) =
      g.parts ∙ ap (λ (w : List ℕ). w ++ g.back) front
      ∙ ap (λ (w : List ℕ). 61 ∷ w) members.0 in
      let all = list_all (λ (member : ℕ → Bool). member d) (map is_within ts) in
      let within = both (is_structure_name s) all name members.1 in
      let made : IsType (suc d) (123 ∷ (s ++ text)) (Structure s ts) = record {
        spelled = ap (λ (w : List ℕ). 123 ∷ (s ++ w)) whole ∙ sym (spelling-Structure s ts);
        within = ap (λ (f : ℕ → Bool). f (suc d)) (within-Structure s ts) ∙ within;
      } in
      subst (IsType (suc d) (123 ∷ (s ++ text))) g.second.same made

  -- a name that ends is a name
  some_name : (s : List ℕ) (t : Bool) → IsNameSoFar s → (t && is_some_name s) ≡ true
      → is_structure_name s ≡ true
  some_name [] true p e = absurd cc
  some_name [] false p e = absurd cc
  some_name (c ∷ cs) t p e = p

  -- a name is a name so far
  so_far : (s : List ℕ) (b : ℕ) → is_structure_name (s ++ b ∷ []) ≡ true
      → IsNameSoFar (s ++ b ∷ [])
  so_far [] b e = e
  so_far (c ∷ cs) b e = e

  -- the same of what is left of a name
  abbrev NameLater : List ℕ → ValueType → Type 0
  NameLater text x = (u : List ℕ) → IsNameSoFar u → Scans name_step (StructureRest T) u text x
      → IsType (suc d) (123 ∷ (u ++ text)) x

  -- what is left of a name and a structure spells it
  name_is : (text s : List ℕ) (x : ValueType) → IsNameSoFar s
      → Scans name_step (StructureRest T) s text x → IsType (suc d) (123 ∷ (s ++ text)) x
  name_is [] s x p g = absurd g
  name_is (b ∷ text) s x p g = on (λ u q h. name_is text u x q h) (name_step s b) refl g.1
    where
      on : NameLater text x → (t : Step (List ℕ) Kind) → name_step s b ≡ t
          → OnStep t (λ u. Scans name_step (StructureRest T) u text x)
          (StructureRest T s (b ∷ text) x)
          → IsType (suc d) (123 ∷ (s ++ b ∷ text)) x
      on again (goes u) e h =
          let c = name_goes (goes_on_name s b) (eqb b 61 && is_some_name s) (eqb b 125)
          (s ++ b ∷ []) u Unsupported BadChar e in
          let q = so_far s b (name_grows s b p c.0) in
          let grouped : s ++ b ∷ text ≡ u ++ text =
          sym (append_assoc s (b ∷ []) text) ∙ ap (λ (w : List ℕ). w ++ text) c.1 in
          retext (suc d) (123 ∷ (s ++ b ∷ text)) (123 ∷ (u ++ text)) x
          (ap (λ (w : List ℕ). 123 ∷ w) grouped) (again u (subst IsNameSoFar c.1 q) h)
      on again leaves e h =
          let c = name_leaves (goes_on_name s b) (eqb b 61 && is_some_name s) (eqb b 125)
          (s ++ b ∷ []) Unsupported BadChar e in
          structure_is s (b ∷ text) x (some_name s (eqb b 61) p c) h
      on again (fails k) e h = absurd h

-- nothing stands behind a letter
letter_is : (d b : ℕ) (text : List ℕ) (x : ValueType) → is_letter b ≡ true
    → LetterRest (scalar_of b) text x → IsType d (b ∷ text) x
letter_is d b text x e g =
    let n = letter_named b e in
    let h : Done (Simple n.scalar) text x =
    subst (λ (o : Option Scalar). LetterRest o text x) n.found g in
    let whole : b ∷ text ≡ type_spelling (Simple n.scalar) =
    ap (λ (w : List ℕ). b ∷ w) h.nothing ∙ ap (λ (c : ℕ). c ∷ []) (sym n.letter)
    ∙ sym (spelling-Simple n.scalar) in
    let made : IsType d (b ∷ text) (Simple n.scalar) = record {
      spelled = whole;
      within = ap (λ (f : ℕ → Bool). f d) (within-Simple n.scalar);
    } in
    subst (IsType d (b ∷ text)) h.same made

-- what stands behind the first byte of a type spells it
pub body_is : (T : List ℕ → ValueType → Type 0) (d : ℕ)
    → ((text : List ℕ) (x : ValueType) → T text x → IsType d text x)
    → (b : ℕ) (text : List ℕ) (x : ValueType)
    → (eqb b 91 ≡ false → eqb b 123 ≡ false → is_letter b ≡ true)
    → Body T b text x → IsType (suc d) (b ∷ text) x
body_is T d one b text x letter g = first (eqb b 91) refl g
  where
    second : (t : Bool) → eqb b 91 ≡ false → eqb b 123 ≡ t
        → Either t (Named T) (LetterRest (scalar_of b)) text x → IsType (suc d) (b ∷ text) x
    second true p q h =
        retext (suc d) (b ∷ text) (123 ∷ text) x (ap (λ (c : ℕ). c ∷ text) (eqb-true b 123 q))
        (name_is T d one text [] x tt h)
    second false p q h = letter_is (suc d) b text x (letter p q) h

    first : (t : Bool) → eqb b 91 ≡ t
        → Either t (Counted T) (Either (b == 123) (Named T) (LetterRest (scalar_of b))) text x
        → IsType (suc d) (b ∷ text) x
    first true p h =
        retext (suc d) (b ∷ text) (91 ∷ text) x (ap (λ (c : ℕ). c ∷ text) (eqb-true b 91 p))
        (counted_is T d one text x h)
    first false p h = second (eqb b 123) p refl h

-- what is read by steps is the one spelling of a type that may stand there
pub type_is : (d : ℕ) (text : List ℕ) (x : ValueType) → ByStep d text x → IsType d text x
type_is zero text x g =
    let whole = g.parts ∙ ap (λ (w : List ℕ). w ++ g.back) g.first.alone in
    retext 0 text (g.value ∷ g.back) x whole
    (letter_is 0 g.value g.back x (is_only_letter g.value g.first.passes) g.second)
type_is (suc d) text x g =
    let whole = g.parts ∙ ap (λ (w : List ℕ). w ++ g.back) g.first.alone in
    retext (suc d) text (g.value ∷ g.back) x whole
    (body_is (ByStep d) d (λ text x h. type_is d text x h) g.value g.back x
    (λ p q. is_some_letter (suc d) g.value g.first.passes p q) g.second)
