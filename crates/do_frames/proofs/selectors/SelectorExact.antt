-- Selectors are read exactly.
use Rattle.std.proofs.Common.{◌≡◌, ℕ, zero, suc, ◌+◌, ◌-◌, ◌<◌, ◌≤◌, Bool, true, false, List, []}
use Rattle.std.proofs.Common.{◌∷◌, ◌++◌, length, cond, refl, sym, ap, subst, ◌∙◌, arith, inl, inr}
use Rattle.std.specs.{Prelude.{◌==◌, ◌&&◌, ◌||◌, ◌⊎◌, nat_le}, Io.BufRead.ends_with_byte}
use Rattle.std.proofs.lemmas.Bool.Decides.{nat_tests}
use Rattle.do_grammar.specs.{Forms.{Byte, Passes}, Names.{goes_in_selector, colons, is_selector}}
use Rattle.do_grammar.specs.{Num.counted, OneSpelling.{Spelled, both, FitsList, list_spelling}}
use Rattle.do_grammar.specs.{OneSpelling.list_at, Reader.{no_kind, byte_of}}
use Rattle.do_grammar.proofs.reads.ExactReader.{Reads, Reads-byte, Reads-as}
use Rattle.do_grammar.proofs.reads.OneSpellingExact.{Reads-both, Reads-onto, Reads-nothing}
use Rattle.do_grammar.proofs.reads.OneSpellingExact.{Reads-list}
use Rattle.do_frames.specs.Selectors.{IsSelector, joined, begins_selector, colons_after}
use Rattle.do_frames.specs.Selectors.{follows_selector, later_at, letters_at, selector_at}
use Rattle.do_frames.proofs.selectors.SelectorBytes.{both_parts, first_small, later_small}
use Rattle.do_frames.proofs.selectors.SelectorBytes.{first_goes, Follow, together, apart, ends_same}
use Rattle.do_frames.proofs.selectors.SelectorBytes.{AreLetters, count, count_is, more_than_none}

-- ---- bytes that pass a test

-- a byte that passes a test is read exactly
Reads-test : (test : ℕ → Bool) → ((b : ℕ) → test b ≡ true → b < 256) → Passes test
    → Reads (Spelled (λ b. b ∷ []) (λ b. test b ≡ true)) (byte_of test (λ b. no_kind))
Reads-test test small some =
    Reads-as (Byte test) (Spelled (λ b. b ∷ []) (λ b. test b ≡ true)) (byte_of test (λ b. no_kind))
    (byte_of test (λ b. no_kind)) (λ text b g. record { bytes = g.alone; fits = g.passes })
    (λ text b g. record { alone = g.bytes; passes = g.fits; small = small b g.fits })
    (λ bytes. refl) (Reads-byte test (λ b. no_kind) some)

-- a letter follows any bytes, and ends them where no colon stands before it; a colon ends others
some_later : (left seen : ℕ) → Passes (follows_selector left seen)
some_later zero seen = record { byte = 58; small = omega arith; passes = refl }
some_later (suc left) seen =
    record { byte = 97; small = omega arith; passes = rw (more_than_none left) refl }

-- ---- the bytes of a selector

-- so many later bytes that may follow one another
abbrev LaterBytes : ℕ → ℕ → List ℕ → Type 0
LaterBytes left seen t = (length t ≡ left) × Follow seen t

-- later bytes are read exactly
pub Reads-later : (left seen : ℕ)
    → Reads (Spelled (λ t. t) (LaterBytes left seen)) (later_at left seen)
Reads-later zero seen =
    Reads-nothing (λ t. t) (LaterBytes zero seen) [] refl (refl, tt) only
  where
    only : (t : List ℕ) → LaterBytes zero seen t → [] ≡ t
    only [] h = refl
    only (b ∷ t) h = let e = h.0 in absurd cc
Reads-later (suc left) seen =
    Reads-onto joined (λ p. (p.0 ∷ []) ++ p.1) Parts (λ t. t) (LaterBytes (suc left) seen)
    (both (byte_of test (λ b. no_kind)) (λ b. later_at left (colons_after seen b)))
    (Reads-both (λ b. b ∷ []) (λ b t. t) (λ b. test b ≡ true) (λ b.
    LaterBytes left (colons_after seen b)) (byte_of test (λ b. no_kind)) (λ b.
    later_at left (colons_after seen b))
    (Reads-test test (later_small left seen) (some_later left seen))
    (λ b h. Reads-later left (colons_after seen b)))
    there back
  where
    test : ℕ → Bool
    test = follows_selector left seen

    Parts : ℕ × List ℕ → Type 0
    Parts p = (test p.0 ≡ true) × LaterBytes left (colons_after seen p.0) p.1

    there : (p : ℕ × List ℕ) → Parts p
        → (joined p ≡ (p.0 ∷ []) ++ p.1) × LaterBytes (suc left) seen (joined p)
    there p h = (
      refl,
      (
        ap suc h.1.0,
        (
          subst (λ (n : ℕ). follows_selector n seen p.0 ≡ true) (sym h.1.0) h.0,
          h.1.1,
        ),
      ),
    )

    back : (t : List ℕ) → LaterBytes (suc left) seen t
        → (p : ℕ × List ℕ) × (joined p ≡ t) × Parts p
    back [] h = let e = h.0 in absurd cc
    back (b ∷ t) h =
        let e = h.0 in
        let len : length t ≡ left = omega arith in (
          (b, t),
          refl,
          (
            subst (λ (n : ℕ). follows_selector n seen b ≡ true) len h.1.0,
            (len, h.1.1),
          ),
        )

-- so many bytes of a selector
abbrev LetterBytes : ℕ → List ℕ → Type 0
LetterBytes n t = (length t ≡ n) × AreLetters t

-- so many bytes of a selector are read exactly
Reads-letters : (n : ℕ) → 0 < n → Reads (Spelled (λ t. t) (LetterBytes n)) (letters_at n)
Reads-letters n some =
    Reads-onto joined (λ p. (p.0 ∷ []) ++ p.1) Parts (λ t. t) (LetterBytes n)
    (both (byte_of begins_selector (λ b. no_kind)) (λ b. later_at (n - 1) 0))
    (Reads-both (λ b. b ∷ []) (λ b t. t) (λ b. begins_selector b ≡ true) (λ b.
    LaterBytes (n - 1) 0) (byte_of begins_selector (λ b. no_kind)) (λ b. later_at (n - 1) 0)
    (Reads-test begins_selector first_small
    (record { byte = 97; small = omega arith; passes = refl }))
    (λ b h. Reads-later (n - 1) 0))
    (λ p h. let len = h.1.0 in (refl, (omega arith, (h.0, h.1.1)))) back
  where
    Parts : ℕ × List ℕ → Type 0
    Parts p = (begins_selector p.0 ≡ true) × LaterBytes (n - 1) 0 p.1

    back : (t : List ℕ) → LetterBytes n t → (p : ℕ × List ℕ) × (joined p ≡ t) × Parts p
    back [] h = absurd h.1
    back (b ∷ t) h = let len = h.0 in ((b, t), refl, (h.1.0, (omega arith, h.1.1)))

-- ---- selectors

le_is : (m n : ℕ) → m ≤ n → nat_le m n ≡ true
le_is m n le = grind (arith, nat_tests)

is_le : (m n : ℕ) → nat_le m n ≡ true → m ≤ n
is_le m n e = grind (arith, nat_tests)

zero_is : (n : ℕ) → n ≡ 0 → (n == 0) ≡ true
zero_is n e = grind (arith, nat_tests)

is_zero : (n : ℕ) → (n == 0) ≡ true → n ≡ 0
is_zero n e = grind (arith, nat_tests)

one_of : (a b : Bool) → (a || b) ≡ true → (a ≡ true) ⊎ (b ≡ true)
one_of true b e = inl refl
one_of false b e = inr e

second_of : (a b : Bool) → b ≡ true → (a || b) ≡ true
second_of true b e = refl
second_of false b e = e

-- the colons behind a first byte are those of the whole
later_colons : (b : ℕ) (bytes : List ℕ) → (b == 58) ≡ false → colons (b ∷ bytes) ≡ colons bytes
later_colons b bytes e =
    sym (count_is (b ∷ bytes))
    ∙ ap (λ (t : Bool). cond t (1 + count bytes) (count bytes)) e ∙ count_is bytes

-- the five tests of a selector
module _ (a b c d e : Bool) where
  all_hold : a ≡ true → b ≡ true → c ≡ true → d ≡ true → e ≡ true → (a && b && c && d && e) ≡ true
  all_hold p q r s t = rw (p, q, r, s, t) refl

  each_holds : (a && b && c && d && e) ≡ true
      → (a ≡ true) × ((b ≡ true) × ((c ≡ true) × ((d ≡ true) × (e ≡ true))))
  each_holds h =
      let p = both_parts (a && b && c && d) e h in
      let q = both_parts (a && b && c) d p.0 in
      let r = both_parts (a && b) c q.0 in
      let s = both_parts a b r.0 in
      (s.0, (s.1, (r.1, (q.1, p.1))))

-- what may be read is a selector
is_made : (t : List ℕ) → AreLetters t → length t ≤ 255 → is_selector t ≡ true
unfolding is_selector
is_made [] h le = absurd h
is_made (b ∷ []) h le =
    let p = first_goes b h.0 in
    let none : colons (b ∷ []) ≡ 0 = later_colons b [] p.1 in
    all_hold _ _ _ _ _ h.0 (rw p.0 refl) refl
    (le_is (colons (b ∷ [])) 8 (omega (arith, none))) (rw (zero_is (colons (b ∷ [])) none) refl)
is_made (b ∷ c ∷ bytes) h le =
    let p = first_goes b h.0 in
    let a = together bytes 0 c h.1 (omega arith) in
    let same = later_colons b (c ∷ bytes) p.1 in
    let few = a.few in
    let counts = count_is (c ∷ bytes) in
    all_hold _ _ _ _ _ h.0 (rw p.0 a.go) (le_is (length (b ∷ c ∷ bytes)) 255 le)
    (le_is (colons (b ∷ c ∷ bytes)) 8 (omega (arith, same, counts)))
    (elim a.close [
      | inl z ↦ rw (zero_is (colons (b ∷ c ∷ bytes)) (omega (arith, same, counts))) refl
      | inr x ↦ second_of (colons (b ∷ c ∷ bytes) == 0) (ends_with_byte 58 (b ∷ c ∷ bytes))
          (ends_same (c ∷ bytes) b ∙ x)
    ])

-- a selector may be read
may_be_read : (t : List ℕ) → is_selector t ≡ true
    → AreLetters t × ((1 ≤ length t) × (length t ≤ 255))
unfolding is_selector
may_be_read [] h = let e : false ≡ true = h in absurd cc
may_be_read (b ∷ []) h =
    let e = each_holds _ _ _ _ _ h in
    ((e.0, tt), (omega arith, omega arith))
may_be_read (b ∷ c ∷ bytes) h =
    let e = each_holds _ _ _ _ _ h in
    let p = first_goes b e.0 in
    let same = later_colons b (c ∷ bytes) p.1 in
    let counts = count_is (c ∷ bytes) in
    let few = is_le (colons (b ∷ c ∷ bytes)) 8 e.1.1.1.0 in
    let short = is_le (length (b ∷ c ∷ bytes)) 255 e.1.1.0 in (
      (
        e.0,
        apart bytes 0 c (record {
          go = (both_parts (goes_in_selector b) _ e.1.0).1;
          few = omega (arith, same, counts);
          close = elim (one_of (colons (b ∷ c ∷ bytes) == 0) (ends_with_byte 58 (b ∷ c ∷ bytes))
              e.1.1.1.1) [
                | inl z ↦ inl (omega (arith, same, counts, is_zero (colons (b ∷ c ∷ bytes)) z))
                | inr x ↦ inr (sym (ends_same (c ∷ bytes) b) ∙ x)
              ];
        }),
      ),
      (omega arith, short),
    )

-- a selector behind its length is read exactly
pub Reads-selector : Reads (Spelled counted IsSelector) selector_at
unfolding selector_at
Reads-selector =
    Reads-as (Spelled (list_spelling (λ t. t)) (FitsList 1 255 (λ n. AreLetters)))
    (Spelled counted IsSelector) (list_at 1 255 letters_at) selector_at
    (λ text t g. record { bytes = g.bytes; fits = is_made t g.fits.each g.fits.at_most })
    (λ text t g. let m = may_be_read t g.fits in record {
      bytes = g.bytes;
      fits = record { at_least = m.1.0; at_most = m.1.1; each = m.0 };
    })
    (λ bytes. refl)
    (Reads-list 1 255 (λ t. t) (λ n. AreLetters) letters_at (omega arith) (omega arith)
    (λ n least most. Reads-letters n least))
