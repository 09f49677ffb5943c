-- The values of packets are read exactly.
use Rattle.std.proofs.Common.{◌≡◌, ℕ, ℤ, zero, suc, ◌-◌, ◌<◌, ◌≤◌, ◌^◌, Bool, true, false}
use Rattle.std.proofs.Common.{List as Listed, [], ◌∷◌, length, drop, get_or, refl, sym, ap, subst}
use Rattle.std.{proofs.Common.{◌∙◌, arith}, specs.Prelude.{◌&&◌, nat_lt, nat_le}}
use Rattle.std.{specs.List.{flat_map, AllByRecursion}, proofs.lemmas.Bool.Decides.nat_tests}
use Rattle.do_class.specs.declared.packet.Part.{Part, List}
use Rattle.do_class.specs.declared.packet.Part.TheVariants.{Nil, Num, Text, Copy, Named}
use Rattle.do_grammar.specs.{Reader.{Reader, no_kind, done, times}, Grammar.IsBytes}
use Rattle.do_grammar.specs.Num.{num, num_at, counted, counted_at, signed_at, zigzag, Signed}
use Rattle.do_grammar.{specs.Num.CountedText, proofs.reads.ExactReader.{Reads, Reads-as}}
use Rattle.do_grammar.proofs.texts.NumExact.{Reads-signed, Reads-counted_text}
use Rattle.do_grammar.specs.OneSpelling.{Spelled, list_at, list_spelling, FitsList}
use Rattle.do_coder.specs.Parts.{part_spelling, is_bytes, IsPart, begins_part, part_body_at}
use Rattle.do_coder.specs.Parts.{layer_at, part_at}
use Rattle.do_grammar.proofs.reads.OneSpellingExact.{Reads-onto, Reads-nothing, Reads-tagged}
use Rattle.do_grammar.proofs.reads.OneSpellingExact.{Reads-number, Reads-many, Reads-list}
use Rattle.do_coder.proofs.values.PartFacts.{part_cases, spelling-Nil, spelling-Num, spelling-Text}
use Rattle.do_coder.proofs.values.PartFacts.{spelling-Copy, spelling-Named, spelling-List, fits-Nil}
use Rattle.do_coder.proofs.values.PartFacts.{fits-Num, fits-Text, fits-Copy, fits-Named, list_fits}
use Rattle.do_coder.proofs.values.PartFacts.{fits_list, bytes_all, all_bytes}

-- the first byte of a value's spelling, and those after it
abbrev part_tag : Part → ℕ
part_tag x = get_or (part_spelling x) 0 0

-- what follows the tag of a value
abbrev part_body : Part → Listed ℕ
part_body x = drop 1 (part_spelling x)

-- a value of the kind that a tag stands for
abbrev OfTag : ℕ → Part → Type 0
OfTag zero x = Nil ≡ x
OfTag (suc zero) x = (z : ℤ) × (Num z ≡ x)
OfTag (suc (suc zero)) x = (t : Listed ℕ) × (Text t ≡ x)
OfTag (suc (suc (suc zero))) x = (k : ℕ) × (Copy k ≡ x)
OfTag (suc (suc (suc (suc zero)))) x = (k : ℕ) × (Named k ≡ x)
OfTag (suc (suc (suc (suc (suc b))))) x = (xs : Listed Part) × (List xs ≡ x)

-- a value is spelled as its tag and what follows it
record Cut (x : Part) : Type 0 where
  parts : part_spelling x ≡ part_tag x ∷ part_body x
  kind : OfTag (part_tag x) x
  small : part_tag x ≤ 5

-- a value that is spelled so has this tag
cut_as : (x : Part) (b : ℕ) (body : Listed ℕ) → part_spelling x ≡ b ∷ body → b ≤ 5 → OfTag b x
    → Cut x
cut_as x b body e le kind =
    let tag : part_tag x ≡ b = ap (λ (w : Listed ℕ). get_or w 0 0) e in
    let rest : part_body x ≡ body = ap (drop 1) e in
    record {
      parts = e ∙ rw (tag, rest) refl;
      kind = subst (λ (w : ℕ). OfTag w x) (sym tag) kind;
      small = omega arith;
    }

-- each value is spelled so
cut : (x : Part) → Cut x
cut =
    part_cases Cut
    (cut_as Nil 0 [] spelling-Nil (omega arith) refl)
    (λ z. cut_as (Num z) 1 (num (zigzag z)) (spelling-Num z) (omega arith) (z, refl))
    (λ t. cut_as (Text t) 2 (counted t) (spelling-Text t) (omega arith) (t, refl))
    (λ k. cut_as (Copy k) 3 (num k) (spelling-Copy k) (omega arith) (k, refl))
    (λ k. cut_as (Named k) 4 (num k) (spelling-Named k) (omega arith) (k, refl))
    (λ xs. cut_as (List xs) 5 (list_spelling (flat_map part_spelling) xs) (spelling-List xs)
    (omega arith) (xs, refl))

-- a value of a tag is of its kind
of_tag : (x : Part) (b : ℕ) → part_tag x ≡ b → OfTag b x
of_tag x b e = subst (λ (w : ℕ). OfTag w x) e (cut x).kind

-- a value whose spelling begins with a byte has it as its tag
tag_is : (x : Part) (b : ℕ) (body : Listed ℕ) → part_spelling x ≡ b ∷ body
    → (part_body x ≡ body) × (part_tag x ≡ b)
tag_is x b body e = (ap (drop 1) e, ap (λ (w : Listed ℕ). get_or w 0 0) e)

-- which tags pass
module _ (copies names depth : ℕ) where
  -- where the tag of a copy passes there is one
  begins_copy : begins_part copies names depth 3 ≡ true → 0 < copies
  begins_copy e = grind (arith, nat_tests)

  -- where the tag of a name passes there is one
  begins_named : begins_part copies names depth 4 ≡ true → 0 < names
  begins_named e = grind (arith, nat_tests)

  -- where the tag of a list passes one may be nested
  begins_list : begins_part copies names depth 5 ≡ true → 0 < depth
  begins_list e = grind (arith, nat_tests)

  -- no byte above 5 is a tag
  begins_no_more : (b : ℕ) → 5 < b → begins_part copies names depth b ≡ true → ⊥
  begins_no_more b lt e = grind (arith, nat_tests)

  -- the tags of nil, numbers and texts pass always
  few_begins : (b : ℕ) → b ≤ 2 → begins_part copies names depth b ≡ true
  few_begins b le = grind (arith, nat_tests)

  -- the tag of a copy passes where there is one
  copy_begins : 0 < copies → begins_part copies names depth 3 ≡ true
  copy_begins h = grind (arith, nat_tests)

  -- so does the tag of a name
  named_begins : 0 < names → begins_part copies names depth 4 ≡ true
  named_begins h = grind (arith, nat_tests)

  -- the tag of a list passes where one may be nested
  list_begins : 0 < depth → begins_part copies names depth 5 ≡ true
  list_begins h = grind (arith, nat_tests)

-- the test for less is exact
less_true : (a b : ℕ) → nat_lt a b ≡ true → a < b
less_true a b e = grind (arith, nat_tests)

-- and complete
true_less : (a b : ℕ) → a < b → nat_lt a b ≡ true
true_less a b h = grind (arith, nat_tests)

-- of two tests that hold together the first holds
and_first : (a b : Bool) → (a && b) ≡ true → a ≡ true
and_first true b e = refl
and_first false b e = absurd cc

-- and the second
and_second : (a b : Bool) → (a && b) ≡ true → b ≡ true
and_second true b e = e
and_second false b e = absurd cc

-- the test for at most is exact
le_true : (a b : ℕ) → nat_le a b ≡ true → a ≤ b
le_true a b e = grind (arith, nat_tests)

-- and complete
true_le : (a b : ℕ) → a ≤ b → nat_le a b ≡ true
true_le a b e = grind (arith, nat_tests)

-- the items of a list
abbrev AreItems : ℕ → ℕ → ℕ → Listed Part → Type 0
AreItems copies names depth = FitsList 0 1024 (λ n. AllByRecursion (IsPart copies names depth))

module _ (copies names depth : ℕ) (few_copies : copies < 2 ^ 64) (few_names : names < 2 ^ 64)
    (items : Reader (Unit {0}) (Listed Part)) (R : 0 < depth
    → Reads (Spelled (list_spelling (flat_map part_spelling)) (AreItems copies names (depth - 1)))
    items) where
  -- a value with this tag that fits
  abbrev Tagged : ℕ → Part → Type 0
  Tagged b x = (part_tag x ≡ b) × IsPart copies names depth x

  -- nil is read exactly behind its tag
  part_nil : Reads (Spelled part_body (Tagged 0)) (part_body_at copies names items 0)
  part_nil =
      let t = tag_is Nil 0 [] spelling-Nil in
      Reads-nothing part_body (Tagged 0) Nil t.0 (
        t.1,
        fits-Nil copies names depth,
      ) (λ y h. of_tag y 0 h.0)

  -- so is a number
  part_number : Reads (Spelled part_body (Tagged 1)) (part_body_at copies names items 1)
  part_number =
      Reads-onto (λ z. Num z) (λ z. num (zigzag z)) (λ z. zigzag z < 2 ^ 64) part_body (Tagged 1)
      (signed_at no_kind)
      (Reads-as Signed (Spelled (λ z. num (zigzag z)) (λ z. zigzag z < 2 ^ 64)) (signed_at no_kind)
      (signed_at no_kind) (λ text z g. record { bytes = g.spelled; fits = g.small })
      (λ text z g. record { spelled = g.bytes; small = g.fits }) (λ bytes. refl)
      (Reads-signed no_kind))
      (λ z h. let t = tag_is (Num z) 1 (num (zigzag z)) (spelling-Num z) in
      (t.0, (t.1, fits-Num copies names depth z ∙ true_less (zigzag z) (2 ^ 64) h)))
      (λ y h. let c = of_tag y 1 h.0 in (
        c.0,
        c.1,
        less_true (zigzag c.0) (2 ^ 64) (sym (fits-Num copies names depth c.0)
            ∙ subst (IsPart copies names depth) (sym c.1) h.1),
      ))

  -- so is a text
  part_text : Reads (Spelled part_body (Tagged 2)) (part_body_at copies names items 2)
  part_text =
      Reads-onto (λ t. Text t) counted (λ t. (length t ≤ 1048575)
      × IsBytes t) part_body (Tagged 2) (counted_at no_kind 1048575)
      (Reads-as (CountedText 1048575) (Spelled counted (λ t. (length t ≤ 1048575) × IsBytes t))
      (counted_at no_kind 1048575) (counted_at no_kind 1048575) (λ text t g. record {
        bytes =
            g.spelled;
        fits = (g.within, g.small);
      }) (λ text t g. record {
        spelled = g.bytes;
        within = g.fits.0;
        small = g.fits.1;
      }) (λ bytes. refl)
      (Reads-counted_text no_kind 1048575 (omega arith)))
      (λ s h. let t = tag_is (Text s) 2 (counted s) (spelling-Text s) in (
        t.0,
        (
          t.1,
          fits-Text copies names depth s
              ∙ rw (true_le (length s) 1048575 h.0, bytes_all s h.1) refl,
        ),
      ))
      (λ y h.
      let c = of_tag y 2 h.0 in
      let fits = sym (fits-Text copies names depth c.0)
      ∙ subst (IsPart copies names depth) (sym c.1) h.1 in (
        c.0,
        c.1,
        (
          le_true (length c.0) 1048575
              (and_first (nat_le (length c.0) 1048575) (is_bytes c.0) fits),
          all_bytes c.0 (and_second (nat_le (length c.0) 1048575) (is_bytes c.0) fits),
        ),
      ))

  -- so is the place of a copy
  part_copy : 0 < copies → Reads (Spelled part_body (Tagged 3)) (part_body_at copies names items 3)
  part_copy some =
      Reads-onto (λ k. Copy k) num (λ k. (0 ≤ k) × (k ≤ copies - 1)) part_body (Tagged 3)
      (num_at no_kind 0 (copies - 1)) (Reads-number 0 (copies - 1) (omega arith) (omega arith))
      (λ k h. let t = tag_is (Copy k) 3 (num k) (spelling-Copy k) in let most = h.1 in
      (t.0, (t.1, fits-Copy copies names depth k ∙ true_less k copies (omega arith))))
      (λ y h. let c = of_tag y 3 h.0 in let lt =
      less_true c.0 copies (sym (fits-Copy copies names depth c.0)
      ∙ subst (IsPart copies names depth) (sym c.1) h.1) in
      (c.0, c.1, (omega arith, omega arith)))

  -- so is the place of a name
  part_named : 0 < names → Reads (Spelled part_body (Tagged 4)) (part_body_at copies names items 4)
  part_named some =
      Reads-onto (λ k. Named k) num (λ k. (0 ≤ k)
      × (k ≤ names - 1)) part_body (Tagged 4) (num_at no_kind 0 (names - 1))
      (Reads-number 0 (names - 1) (omega arith) (omega arith))
      (λ k h. let t = tag_is (Named k) 4 (num k) (spelling-Named k) in let most = h.1 in
      (t.0, (t.1, fits-Named copies names depth k ∙ true_less k names (omega arith))))
      (λ y h. let c = of_tag y 4 h.0 in let lt =
      less_true c.0 names (sym (fits-Named copies names depth c.0)
      ∙ subst (IsPart copies names depth) (sym c.1) h.1) in
      (c.0, c.1, (omega arith, omega arith)))

  -- so is a list whose items are
  part_list : 0 < depth → Reads (Spelled part_body (Tagged 5)) (part_body_at copies names items 5)
  part_list some =
      Reads-onto (λ xs. List xs) (list_spelling (flat_map part_spelling))
      (AreItems copies names (depth - 1)) part_body (Tagged 5) items (R some)
      (λ xs h. let t =
      tag_is (List xs) 5 (list_spelling (flat_map part_spelling) xs) (spelling-List xs) in
      (t.0, (t.1, fits_list copies names depth xs some h.at_most h.each)))
      (λ y h.
      let c = of_tag y 5 h.0 in
      let fits =
      list_fits copies names depth c.0 (subst (IsPart copies names depth) (sym c.1) h.1) in
      (c.0, c.1, record { at_least = omega arith; at_most = fits.1.0; each = fits.1.1 }))

  -- what follows a tag that passes is read exactly
  part_bodies : (b : ℕ) → begins_part copies names depth b ≡ true
      → Reads (Spelled part_body (Tagged b)) (part_body_at copies names items b)
  part_bodies zero e = part_nil
  part_bodies (suc zero) e = part_number
  part_bodies (suc (suc zero)) e = part_text
  part_bodies (suc (suc (suc zero))) e = part_copy (begins_copy copies names depth e)
  part_bodies (suc (suc (suc (suc zero)))) e = part_named (begins_named copies names depth e)
  part_bodies (suc (suc (suc (suc (suc zero))))) e = part_list (begins_list copies names depth e)
  part_bodies (suc (suc (suc (suc (suc (suc b)))))) e =
      absurd (begins_no_more copies names depth (suc (suc (suc (suc (suc (suc b))))))
      (omega arith) e)

  -- the tag of a value that fits passes
  passes : (b : ℕ) (x : Part) → b ≤ 5 → OfTag b x → IsPart copies names depth x
      → begins_part copies names depth b ≡ true
  passes zero x le k h = few_begins copies names depth 0 (omega arith)
  passes (suc zero) x le k h = few_begins copies names depth 1 (omega arith)
  passes (suc (suc zero)) x le k h = few_begins copies names depth 2 (omega arith)
  passes (suc (suc (suc zero))) x le k h =
      let lt =
      less_true k.0 copies (sym (fits-Copy copies names depth k.0)
      ∙ subst (IsPart copies names depth) (sym k.1) h) in
      copy_begins copies names depth (omega arith)
  passes (suc (suc (suc (suc zero)))) x le k h =
      let lt =
      less_true k.0 names (sym (fits-Named copies names depth k.0)
      ∙ subst (IsPart copies names depth) (sym k.1) h) in
      named_begins copies names depth (omega arith)
  passes (suc (suc (suc (suc (suc zero))))) x le k h =
      list_begins copies names depth
      (list_fits copies names depth k.0 (subst (IsPart copies names depth) (sym k.1) h)).0
  passes (suc (suc (suc (suc (suc (suc b)))))) x le k h = absurd (omega arith)

  -- a value is read exactly whose items are
  pub Reads-layer : Reads (Spelled part_spelling (IsPart copies names depth))
      (layer_at copies names depth items)
  Reads-layer =
      Reads-tagged part_tag part_body part_spelling (IsPart copies names depth)
      (begins_part copies names depth) (part_body_at copies names items) (λ x. (cut x).parts)
      (λ x h. let small = (cut x).small in
      (passes (part_tag x) x small (cut x).kind h, omega arith))
      (record {
        byte = 0;
        small = omega arith;
        passes = few_begins copies names depth 0 (omega arith);
      }) part_bodies

module _ (copies names : ℕ) (few_copies : copies < 2 ^ 64) (few_names : names < 2 ^ 64) where
  -- a value is read exactly in which so many lists may be nested
  pub Reads-part : (depth : ℕ)
      → Reads (Spelled part_spelling (IsPart copies names depth)) (part_at copies names depth)
  unfolding part_at
  Reads-part zero =
      Reads-layer copies names 0 few_copies few_names (done []) (λ h. absurd (omega arith))
  Reads-part (suc depth) =
      let same : suc depth - 1 ≡ depth = omega arith in
      Reads-layer copies names (suc depth) few_copies few_names
      (list_at 0 1024 (times (part_at copies names depth)))
      (λ h. subst (λ (d : ℕ).
      Reads (Spelled (list_spelling (flat_map part_spelling)) (AreItems copies names d))
      (list_at 0 1024 (times (part_at copies names depth)))) (sym same)
      (Reads-list 0 1024 (flat_map part_spelling) (λ n. AllByRecursion (IsPart copies names depth))
      (times (part_at copies names depth)) (omega arith) (omega arith)
      (λ n least most.
      Reads-many part_spelling (IsPart copies names depth) (part_at copies names depth) n
      (λ some. Reads-part depth))))
