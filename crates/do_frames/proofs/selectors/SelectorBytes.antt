-- The bytes of selectors, one by one and together.
use Rattle.std.proofs.Common.{◌≡◌, ℕ, suc, ◌+◌, ◌-◌, ◌<◌, ◌≤◌, Bool, true, false, List, [], ◌∷◌}
use Rattle.std.proofs.Common.{length, get_or, cond, refl, sym, subst, ◌∙◌, arith, inl, inr}
use Rattle.std.specs.{Prelude.{◌==◌, ◌&&◌, ◌||◌, ◌⊎◌, not, nat_lt}, List.list_all}
use Rattle.std.specs.Io.BufRead.{ends_with_byte}
use Rattle.std.proofs.lemmas.{Bool.Decides.nat_tests, List.Recursion.is_count_by}
use Rattle.do_grammar.specs.Names.{goes_in_selector, colons}
use Rattle.do_frames.specs.Selectors.{begins_selector, colons_after, follows_selector}

-- a conjunction has both parts
pub both_parts : (a b : Bool) → (a && b) ≡ true → (a ≡ true) × (b ≡ true)
both_parts true b e = (refl, e)
both_parts false b e = absurd cc

-- a byte of a selector is below 256
pub byte_small : (b : ℕ) → goes_in_selector b ≡ true → b < 256
byte_small b e = grind (arith, nat_tests)

-- so is the first one
pub first_small : (b : ℕ) → begins_selector b ≡ true → b < 256
first_small b e = grind (arith, nat_tests)

-- so is one that may follow
pub later_small : (left seen b : ℕ) → follows_selector left seen b ≡ true → b < 256
later_small left seen b e = byte_small b (both_parts (goes_in_selector b) _ e).0

-- the first byte is no colon, and may stand in a selector
pub first_goes : (b : ℕ) → begins_selector b ≡ true
    → (goes_in_selector b ≡ true) × ((b == 58) ≡ false)
first_goes b e = (grind (arith, nat_tests), grind (arith, nat_tests))

-- ---- bytes one by one

-- bytes that may follow one another to the end, behind so many colons
abbrev pub Follow : ℕ → List ℕ → Type 0
Follow seen [] = Unit {0}
Follow seen (b ∷ bytes) =
    (follows_selector (length bytes) seen b ≡ true) × Follow (colons_after seen b) bytes

-- ---- bytes together

-- how many colons there are, byte by byte
abbrev pub count : List ℕ → ℕ
count [] = 0
count (b ∷ bytes) = cond (b == 58) (1 + count bytes) (count bytes)

-- the last byte is a colon
abbrev pub ends_in_colon : List ℕ → Bool
ends_in_colon [] = false
ends_in_colon (b ∷ []) = b == 58
ends_in_colon (b ∷ c ∷ bytes) = ends_in_colon (c ∷ bytes)

-- no colon stands there, with those before, or the last byte is one
abbrev pub Closes : ℕ → List ℕ → Type 0
Closes seen bytes = (seen + count bytes ≡ 0) ⊎ (ends_in_colon bytes ≡ true)

-- what holds of some bytes behind so many colons together
pub record AreLater (seen b : ℕ) (bytes : List ℕ) : Type 0 where
  pub go : list_all goes_in_selector (b ∷ bytes) ≡ true
  pub few : seen + count (b ∷ bytes) ≤ 8
  pub close : Closes seen (b ∷ bytes)

-- one byte more has no fewer colons
count_grows : (n : ℕ) (t : Bool) → n ≤ cond t (1 + n) n
count_grows n true = omega arith
count_grows n false = omega arith

-- bytes that end in a colon have one
has_colon : (bytes : List ℕ) → ends_in_colon bytes ≡ true → 1 ≤ count bytes
has_colon [] e = absurd cc
has_colon (b ∷ []) e = rw e (omega arith)
has_colon (b ∷ c ∷ bytes) e =
    let rec = has_colon (c ∷ bytes) e in
    let more = count_grows (count (c ∷ bytes)) (b == 58) in
    omega arith

-- ---- numbers by their tests

is_zero : (n : ℕ) → (n == 0) ≡ true → n ≡ 0
is_zero n e = grind (arith, nat_tests)

zero_is : (n : ℕ) → n ≡ 0 → (n == 0) ≡ true
zero_is n e = grind (arith, nat_tests)

below_seven : (n : ℕ) → nat_lt n 7 ≡ true → n < 7
below_seven n e = grind (arith, nat_tests)

seven_is : (n : ℕ) → n < 7 → nat_lt n 7 ≡ true
seven_is n e = grind (arith, nat_tests)

pub more_than_none : (n : ℕ) → (suc n == 0) ≡ false
more_than_none n = grind (arith, nat_tests)

-- ---- from one by one to together

-- the last byte
module _ (seen b : ℕ) where
  last_together : (t : Bool) → (b == 58) ≡ t → goes_in_selector b ≡ true
      → (b == 58 || seen == 0) ≡ true → seen ≤ 7 → AreLater seen b []
  last_together true e go h le =
      record { go = rw go refl; few = rw e (omega arith); close = inr e }
  last_together false e go h le =
      let zero_seen : (seen == 0) ≡ true = sym (rw e refl) ∙ h in
      let none = is_zero seen zero_seen in
      record {
        go = rw go refl;
        few = rw e (omega arith);
        close = inl (rw e (omega arith));
      }

  -- a byte before others
  more_together : (c : ℕ) (bytes : List ℕ) (t : Bool) → (b == 58) ≡ t → goes_in_selector b ≡ true
      → (not (b == 58) || nat_lt seen 7) ≡ true
      → (suc seen ≤ 7 → Follow (suc seen) (c ∷ bytes) → AreLater (suc seen) c bytes)
      → (Follow seen (c ∷ bytes) → AreLater seen c bytes)
      → Follow (colons_after seen b) (c ∷ bytes) → AreLater seen b (c ∷ bytes)
  more_together c bytes true e goes h one none f =
      let low : nat_lt seen 7 ≡ true = sym (rw e refl) ∙ h in
      let next : colons_after seen b ≡ suc seen = rw e refl in
      let rec = one (below_seven seen low) (subst (λ (n : ℕ). Follow n (c ∷ bytes)) next f) in
      let few = rec.few in
      record { go = rw goes rec.go; few = rw e (omega arith); close = ends rec.close }
    where
      ends : Closes (suc seen) (c ∷ bytes) → Closes seen (b ∷ c ∷ bytes)
      ends h = elim h [ inl z ↦ absurd (omega arith) | inr x ↦ inr x ]
  more_together c bytes false e goes h one none f =
      let next : colons_after seen b ≡ seen = rw e refl in
      let rec = none (subst (λ (n : ℕ). Follow n (c ∷ bytes)) next f) in
      let few = rec.few in
      record { go = rw goes rec.go; few = rw e (omega arith); close = ends rec.close }
    where
      ends : Closes seen (c ∷ bytes) → Closes seen (b ∷ c ∷ bytes)
      ends h = elim h [ inl z ↦ inl (rw e (omega arith)) | inr x ↦ inr x ]

-- bytes that may follow one another hold together
pub together : (bytes : List ℕ) (seen b : ℕ) → Follow seen (b ∷ bytes) → seen ≤ 7
    → AreLater seen b bytes
together [] seen b f le =
    let p = both_parts (goes_in_selector b) _ f.0 in
    last_together seen b (b == 58) refl p.0 p.1 le
together (c ∷ bytes) seen b f le =
    let p = both_parts (goes_in_selector b) _ f.0 in
    let h : (not (b == 58) || nat_lt seen 7) ≡ true =
    sym (rw (more_than_none (length bytes)) refl) ∙ p.1 in
    more_together seen b c bytes (b == 58) refl p.0 h
    (λ low g. together bytes (suc seen) c g low) (λ g. together bytes seen c g le) f.1

-- ---- from together to one by one

module _ (seen b : ℕ) where
  last_apart : (t : Bool) → (b == 58) ≡ t → goes_in_selector b ≡ true → AreLater seen b []
      → follows_selector 0 seen b ≡ true
  last_apart true e goes a = rw (goes, e) refl
  last_apart false e goes a =
      elim a.close [
        | inl z ↦ let none : seen ≡ 0 = omega arith in rw (goes, e, zero_is seen none) refl
        | inr x ↦ absurd cc
      ]

  -- a byte before others
  more_apart : (c : ℕ) (bytes : List ℕ) (t : Bool) → (b == 58) ≡ t → goes_in_selector b ≡ true
      → list_all goes_in_selector (c ∷ bytes) ≡ true → AreLater seen b (c ∷ bytes)
      → (AreLater (suc seen) c bytes → Follow (suc seen) (c ∷ bytes))
      → (AreLater seen c bytes → Follow seen (c ∷ bytes)) → Follow seen (b ∷ c ∷ bytes)
  more_apart c bytes true e goes others a one none =
      let n : ℕ = count (c ∷ bytes) in
      let few : seen + (1 + n) ≤ 8 = subst (λ (t : Bool). seen + cond t (1 + n) n ≤ 8) e a.few in
      let next : colons_after seen b ≡ suc seen = rw e refl in
      elim a.close [
        | inl z ↦ let none : seen + (1 + n) ≡ 0 =
            subst (λ (t : Bool). seen + cond t (1 + n) n ≡ 0) e z in
            absurd (omega arith)
        | inr x ↦ let some = has_colon (c ∷ bytes) x in
            let lt : seen < 7 = omega arith in (
              rw (goes, more_than_none (length bytes), e, seven_is seen lt) refl,
              subst (λ (n : ℕ). Follow n (c ∷ bytes)) (sym next)
                  (one (record { go = others; few = omega arith; close = inr x })),
            )
      ]
  more_apart c bytes false e goes others a one none =
      let n : ℕ = count (c ∷ bytes) in
      let few : seen + n ≤ 8 = subst (λ (t : Bool). seen + cond t (1 + n) n ≤ 8) e a.few in
      let next : colons_after seen b ≡ seen = rw e refl in
      let ends : Closes seen (c ∷ bytes) =
      elim a.close [
        | inl z ↦ inl (subst (λ (t : Bool). seen + cond t (1 + n) n ≡ 0) e z)
        | inr x ↦ inr x
      ] in (
        rw (goes, more_than_none (length bytes), e) refl,
        subst (λ (n : ℕ). Follow n (c ∷ bytes)) (sym next)
            (none (record { go = others; few = few; close = ends })),
      )

-- bytes that hold together may follow one another
pub apart : (bytes : List ℕ) (seen b : ℕ) → AreLater seen b bytes → Follow seen (b ∷ bytes)
apart [] seen b a =
    let goes = (both_parts (goes_in_selector b) _ a.go).0 in
    (last_apart seen b (b == 58) refl goes a, tt)
apart (c ∷ bytes) seen b a =
    let p = both_parts (goes_in_selector b) _ a.go in
    more_apart seen b c bytes (b == 58) refl p.0 p.1 a (λ x. apart bytes (suc seen) c x)
    (λ x. apart bytes seen c x)

-- ---- selectors

-- the colons, counted at once
pub count_is : (bytes : List ℕ) → count bytes ≡ colons bytes
count_is bytes = is_count_by count (λ b. b == 58) refl (λ b rest. refl) bytes

-- the last byte, found by its place
ends_there : (bytes : List ℕ) (b : ℕ)
    → (get_or (b ∷ bytes) (length bytes) 0 == 58) ≡ ends_in_colon (b ∷ bytes)
ends_there [] b = refl
ends_there (c ∷ bytes) b = ends_there bytes c

some_byte : (n : ℕ) → nat_lt 0 (suc n) ≡ true
some_byte n = grind (arith, nat_tests)

-- the last byte is a colon, by the whole
pub ends_same : (bytes : List ℕ) (b : ℕ)
    → ends_with_byte 58 (b ∷ bytes) ≡ ends_in_colon (b ∷ bytes)
ends_same bytes b =
    let last : suc (length bytes) - 1 ≡ length bytes = omega arith in
    rw (some_byte (length bytes), last) (ends_there bytes b)

-- a first byte, and bytes that may follow it
abbrev pub AreLetters : List ℕ → Type 0
AreLetters [] = ⊥
AreLetters (b ∷ bytes) = (begins_selector b ≡ true) × Follow 0 bytes
