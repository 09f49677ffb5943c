-- Texts in quotes are read exactly.
use Rattle.std.proofs.Common.{◌≡◌, ◌≢◌, ℕ, zero, suc, ◌+◌, ◌-◌, ◌*◌, ◌/◌, ◌%◌, ◌<◌, ◌≤◌, Bool, true}
use Rattle.std.proofs.Common.{false, cond, eqb, leb, List, [], ◌∷◌, ◌++◌, length, Option, Some}
use Rattle.std.proofs.Common.{None, refl, sym, ap, subst, ◌∙◌, append_assoc, arith, inl, inr}
use Rattle.std.specs.{Prelude.◌&&◌, List.flat_map}
use Rattle.std.proofs.lemmas.Bool.{eqb-true, ne_eqb, lt-ltb, le-ltb, cases_lt, Decides.nat_tests}
use Rattle.std.proofs.lemmas.Nat.{div-mul-add, mod-mul-add, div-add-mod'}
use Rattle.do_grammar.specs.{Grammar.IsBytes, Words.◌>>?◌}
use Rattle.do_grammar.specs.Quoted.{is_plain, hex_digit, quoted_byte, quoted, hex_value, escaped}
use Rattle.do_grammar.specs.Quoted.{escape_at, piece_at, closing, closed_or, denoted, quoted_at}
use Rattle.do_grammar.proofs.texts.WordBytes.{some_is, chain_some}

-- ---- digits

-- a byte that stands for itself is below 127 and no quote
plain_low : (b : ℕ) → is_plain b ≡ true → (b ≤ 126) × (b ≢ 34)
plain_low b e = (grind (arith, nat_tests), λ (h : b ≡ 34). grind (arith, nat_tests))

-- a digit with a value is the digit of this value
hex_takes : (b n : ℕ) → hex_value b ≡ Some n → (n < 16) × (hex_digit n ≡ b)
hex_takes b n e = go (leb 48 b && leb b 57) refl e
  where
    digit : (48 ≤ b) × (b ≤ 57) → n ≡ b - 48 → (n < 16) × (hex_digit n ≡ b)
    digit h s =
        let p = h.0 in
        let q = h.1 in
        (omega arith, rw (lt-ltb n 10 (omega arith)) (omega arith))

    letter : (97 ≤ b) × (b ≤ 102) → n ≡ b - 87 → (n < 16) × (hex_digit n ≡ b)
    letter h s =
        let p = h.0 in
        let q = h.1 in
        (omega arith, rw (le-ltb n 10 (omega arith)) (omega arith))

    both : (x y : ℕ) → (leb x b && leb b y) ≡ true → (x ≤ b) × (b ≤ y)
    both x y h = (grind (arith, nat_tests), grind (arith, nat_tests))

    other : (t : Bool) → (leb 97 b && leb b 102) ≡ t → cond t (Some (b - 87)) None ≡ Some n
        → (n < 16) × (hex_digit n ≡ b)
    other true h q = letter (both 97 102 h) (sym (some_is (b - 87) n q))
    other false h q = absurd cc

    go : (t : Bool) → (leb 48 b && leb b 57) ≡ t
        → cond t (Some (b - 48)) (cond (leb 97 b && leb b 102) (Some (b - 87)) None) ≡ Some n
        → (n < 16) × (hex_digit n ≡ b)
    go true h q = digit (both 48 57 h) (sym (some_is (b - 48) n q))
    go false h q = other (leb 97 b && leb b 102) refl q

-- a byte between two passes their test
between_test : (x y b : ℕ) → x ≤ b → b ≤ y → (leb x b && leb b y) ≡ true
between_test x y b p q = grind (arith, nat_tests)

-- a letter is no decimal digit
above_test : (b : ℕ) → 97 ≤ b → (leb 48 b && leb b 57) ≡ false
above_test b p = grind (arith, nat_tests)

-- the digit of a value below 16 has this value
hex_again : (n : ℕ) → n < 16 → hex_value (hex_digit n) ≡ Some n
hex_again n lt =
    elim (cases_lt n 10) [
      | inl small ↦ rw (lt-ltb n 10 small, between_test 48 57 (48 + n) (omega arith) (omega arith))
          (ap (λ (w : ℕ). Some w) (omega arith))
      | inr big ↦ rw (
        le-ltb n 10 big,
        above_test (87 + n) (omega arith),
        between_test 97 102 (87 + n) (omega arith) (omega arith),
      )
          (ap (λ (w : ℕ). Some w) (omega arith))
    ]

-- ---- a byte

record Takes (bytes : List ℕ) (p : ℕ × List ℕ) : Type 0 where
  spelled : bytes ≡ quoted_byte p.0 ++ p.1
  small : p.0 < 256

-- a byte that two digits denote is spelled by them behind a backslash
escape_takes : (bytes : List ℕ) (p : ℕ × List ℕ) → escape_at bytes ≡ Some p → Takes (92 ∷ bytes) p
escape_takes [] p e = absurd cc
escape_takes (high ∷ []) p e = absurd cc
escape_takes (high ∷ low ∷ rest) p e = go (is_plain b) refl d.2
  where
    c : (h : ℕ) × (hex_value high ≡ Some h)
        × ((hex_value low >>? λ l. escaped (h * 16 + l) rest) ≡ Some p)
    c = chain_some (hex_value high) (λ h. hex_value low >>? λ l. escaped (h * 16 + l) rest) p e

    d : (l : ℕ) × (hex_value low ≡ Some l) × (escaped (c.0 * 16 + l) rest ≡ Some p)
    d = chain_some (hex_value low) (λ l. escaped (c.0 * 16 + l) rest) p c.2

    b : ℕ
    b = c.0 * 16 + d.0

    made : ℕ × List ℕ
    made = (b, rest)

    go : (t : Bool) → is_plain b ≡ t → cond t None (Some made) ≡ Some p
        → Takes (92 ∷ high ∷ low ∷ rest) p
    go true h q = absurd cc
    go false h q =
        let x = hex_takes high c.0 c.1 in
        let y = hex_takes low d.0 d.1 in
        let first : b / 16 ≡ c.0 = div-mul-add c.0 16 d.0 y.0 in
        let second : b % 16 ≡ d.0 = mod-mul-add c.0 16 d.0 y.0 in
        let lt = x.0 in
        let lt' = y.0 in
        subst (Takes (92 ∷ high ∷ low ∷ rest)) (some_is made p q) (record {
          spelled = rw (h, first, second, x.1, y.1) refl;
          small = omega arith;
        })

-- a byte that is denoted is spelled so
piece_takes : (bytes : List ℕ) (p : ℕ × List ℕ) → piece_at bytes ≡ Some p → Takes bytes p
piece_takes [] p e = absurd cc
piece_takes (b ∷ rest) p e = go (is_plain b) refl e
  where
    other : (t : Bool) → eqb b 92 ≡ t → cond t (escape_at rest) None ≡ Some p → Takes (b ∷ rest) p
    other true h q =
        subst (λ (w : ℕ). Takes (w ∷ rest) p) (sym (eqb-true b 92 h)) (escape_takes rest p q)
    other false h q = absurd cc

    go : (t : Bool) → is_plain b ≡ t
        → cond t (Some (b, rest)) (cond (eqb b 92) (escape_at rest) None) ≡ Some p
        → Takes (b ∷ rest) p
    go true h q =
        let made : ℕ × List ℕ = (b, rest) in
        let low = (plain_low b h).0 in
        subst (Takes (b ∷ rest)) (some_is made p q) (record {
          spelled = rw h refl;
          small =
              omega arith;
        })
    go false h q = other (eqb b 92) refl q

-- and a byte that is spelled so is denoted
piece_again : (b : ℕ) (rest : List ℕ) → b < 256 → piece_at (quoted_byte b ++ rest) ≡ Some (b, rest)
piece_again b rest small = go (is_plain b) refl
  where
    go : (t : Bool) → is_plain b ≡ t → piece_at (quoted_byte b ++ rest) ≡ Some (b, rest)
    go true h = rw (h, h) refl
    go false h =
        let whole : b / 16 * 16 + b % 16 ≡ b = div-add-mod' b 16 in
        let first = hex_again (b / 16) (omega arith) in
        let second = hex_again (b % 16) (omega arith) in
        rw (h, first, second, whole, h) refl

-- no byte stands so that the quote is first
closing_none : (b : ℕ) (rest : List ℕ) → closing (quoted_byte b ++ rest) ≡ None
closing_none b rest = go (is_plain b) refl
  where
    go : (t : Bool) → is_plain b ≡ t → closing (quoted_byte b ++ rest) ≡ None
    go true h = rw (h, ne_eqb b 34 (plain_low b h).1) refl
    go false h = rw h refl

-- the quote stands first
closing_some : (bytes rest : List ℕ) → closing bytes ≡ Some rest → bytes ≡ 34 ∷ rest
closing_some [] rest e = absurd cc
closing_some (b ∷ bytes) rest e = go (eqb b 34) refl e
  where
    go : (t : Bool) → eqb b 34 ≡ t → cond t (Some bytes) None ≡ Some rest → b ∷ bytes ≡ 34 ∷ rest
    go true h q = ap (λ (w : ℕ). w ∷ bytes) (eqb-true b 34 h)
        ∙ ap (λ (w : List ℕ). 34 ∷ w) (some_is bytes rest q)
    go false h q = absurd cc

-- ---- a text

record Ends (n : ℕ) (bytes : List ℕ) (x : List ℕ × List ℕ) : Type 0 where
  spelled : bytes ≡ flat_map quoted_byte x.0 ++ 34 ∷ x.1
  few : length x.0 ≤ n
  small : IsBytes x.0

-- at the quote the text ends
at_close : (n : ℕ) (bytes rest : List ℕ) (x : List ℕ × List ℕ) → closing bytes ≡ Some rest
    → closed_or (Some rest) None ≡ Some x → Ends n bytes x
at_close n bytes rest x h q =
    let made : List ℕ × List ℕ = ([], rest) in
    subst (Ends n bytes) (some_is made x q) (record {
      spelled = closing_some bytes rest h;
      few = omega arith;
      small = tt;
    })

-- a text that is denoted is spelled so
denoted_takes : (n : ℕ) (bytes : List ℕ) (x : List ℕ × List ℕ) → denoted n bytes ≡ Some x
    → Ends n bytes x
denoted_takes zero bytes x e = go (closing bytes) refl e
  where
    go : (o : Option (List ℕ)) → closing bytes ≡ o → closed_or o None ≡ Some x → Ends zero bytes x
    go None h q = absurd cc
    go (Some rest) h q = at_close zero bytes rest x h q
denoted_takes (suc n) bytes x e = go (λ bs y h. denoted_takes n bs y h) (closing bytes) refl e
  where
    later : ℕ × List ℕ → Option (List ℕ × List ℕ)
    later p = denoted n p.1 >>? λ y. Some (p.0 ∷ y.0, y.1)

    go : ((bs : List ℕ) (y : List ℕ × List ℕ) → denoted n bs ≡ Some y → Ends n bs y)
        → (o : Option (List ℕ)) → closing bytes ≡ o
        → closed_or o (piece_at bytes >>? λ p. denoted n p.1 >>? λ y. Some (p.0 ∷ y.0, y.1))
        ≡ Some x → Ends (suc n) bytes x
    go again (Some rest) h q = at_close (suc n) bytes rest x h q
    go again None h q =
        let c = chain_some (piece_at bytes) (λ p. denoted n p.1 >>? λ y.
        Some (p.0 ∷ y.0, y.1)) x q in
        let d = chain_some (denoted n c.0.1) (λ y. Some (c.0.0 ∷ y.0, y.1)) x c.2 in
        let t = piece_takes bytes c.0 c.1 in
        let r = again c.0.1 d.0 d.1 in
        let few = r.few in
        let made : List ℕ × List ℕ = (c.0.0 ∷ d.0.0, d.0.1) in
        subst (Ends (suc n) bytes) (some_is made x d.2) (record {
          spelled = t.spelled ∙ ap (λ (w : List ℕ). quoted_byte c.0.0 ++ w) r.spelled
              ∙ sym (append_assoc (quoted_byte c.0.0) (flat_map quoted_byte d.0.0) (34 ∷ d.0.1));
          few = omega arith;
          small = (t.small, r.small);
        })

-- and a text that is spelled so is denoted, whatever follows
denoted_again : (n : ℕ) (x rest : List ℕ) → IsBytes x → length x ≤ n
    → denoted n (flat_map quoted_byte x ++ 34 ∷ rest) ≡ Some (x, rest)
denoted_again zero [] rest small few = refl
denoted_again zero (b ∷ x) rest small few = absurd (omega arith)
denoted_again (suc n) [] rest small few = refl
denoted_again (suc n) (b ∷ x) rest small few =
    let again = denoted_again n x rest small.1 (omega arith) in
    let behind : List ℕ = flat_map quoted_byte x ++ 34 ∷ rest in
    let whole : flat_map quoted_byte (b ∷ x) ++ 34 ∷ rest ≡ quoted_byte b ++ behind =
    append_assoc (quoted_byte b) (flat_map quoted_byte x) (34 ∷ rest) in
    ap (denoted (suc n)) whole
    ∙ rw (closing_none b behind, piece_again b behind small.0, again) refl

-- what is read is spelled so
pub quoted_takes : (limit : ℕ) (bytes text rest : List ℕ)
    → quoted_at limit bytes ≡ Some (text, rest)
    → (bytes ≡ quoted text ++ rest) × (length text ≤ limit) × IsBytes text
unfolding quoted_at
quoted_takes limit [] text rest e = absurd cc
quoted_takes limit (b ∷ bytes) text rest e = go (eqb b 34) refl e
  where
    x : List ℕ × List ℕ
    x = (text, rest)

    go : (t : Bool) → eqb b 34 ≡ t → cond t (denoted limit bytes) None ≡ Some x
        → (b ∷ bytes ≡ quoted text ++ rest) × (length text ≤ limit) × IsBytes text
    go true h q =
        let r = denoted_takes limit bytes x q in (
          ap (λ (w : ℕ). w ∷ bytes) (eqb-true b 34 h)
              ∙ ap (λ (w : List ℕ). 34 ∷ w) (r.spelled
              ∙ sym (append_assoc (flat_map quoted_byte text) (34 ∷ []) rest)),
          r.few,
          r.small,
        )
    go false h q = absurd cc

-- and what is spelled so is read, whatever stands behind it
pub quoted_again : (limit : ℕ) (text rest : List ℕ) → IsBytes text → length text ≤ limit
    → quoted_at limit (quoted text ++ rest) ≡ Some (text, rest)
unfolding quoted_at
quoted_again limit text rest small few =
    ap (denoted limit) (append_assoc (flat_map quoted_byte text) (34 ∷ []) rest)
    ∙ denoted_again limit text rest small few
