-- Numbers and texts are read exactly.
use Rattle.std.proofs.Common.{◌≡◌, ℕ, ◌+◌, ◌-◌, ◌*◌, ◌/◌, ◌%◌, ◌<◌, ◌≤◌, ◌^◌, true, List, ◌++◌}
use Rattle.std.proofs.Common.{length, refl, sym, ap, ◌∙◌, arith, max, inl, inr}
use Rattle.std.specs.Prelude.{ℤ, pos, negsuc, ◌⊎◌}
use Rattle.std.proofs.lemmas.Bool.{eq-eqb, ne_eqb, cases_lt, Decides.nat_tests}
use Rattle.do_grammar.specs.{Reader.bytes_of, Forms.{Then, Bytes, Mapped}, Num.{span, digits, size}}
use Rattle.do_grammar.specs.Num.{least_of, num, reaches, digits_at, sized, num_at, counted_at}
use Rattle.do_grammar.specs.Num.{zigzag, unzigzag, signed_at, Num, CountedText, Signed}
use Rattle.do_grammar.{specs.OneSpelling.Spelled, proofs.reads.ExactReader.{Reads, Reads-then}}
use Rattle.do_grammar.proofs.reads.{ExactReader.Reads-as, FormsExact.{Reads-mapped, Reads-bytes}}
use Rattle.do_grammar.proofs.texts.SizeExact.{span_pos, size_le, size_sized, least-span}
use Rattle.do_grammar.proofs.texts.DigitsExact.{Reached, Reaches, InSize, Reads-fitting_digits}
use Rattle.do_grammar.proofs.texts.DigitsExact.{FittingDigits, Reads-sized}

-- ---- a number between two bounds

-- where bytes go on, some number between the bounds begins with them
reaches_true : (low high k least : ℕ) → reaches low high k least ≡ true
    → (least ≤ high) × (low < least + span k)
reaches_true low high k least e = (grind (arith, nat_tests), grind (arith, nat_tests))

-- and where one begins with them, they go on
reaches_from : (low high k least : ℕ) → least ≤ high → low < least + span k
    → reaches low high k least ≡ true
reaches_from low high k least p q = grind (arith, nat_tests)

-- where a length is let through, some number between the bounds has it
sized_true : (low high n : ℕ) → sized low high n ≡ true
    → (n ≤ 8) × (least_of n ≤ high) × (low < span n)
sized_true low high n e =
    (grind (arith, nat_tests), grind (arith, nat_tests), grind (arith, nat_tests))

-- and where one has it, it is let through
sized_from : (low high n : ℕ) → n ≤ 8 → least_of n ≤ high → low < span n → sized low high n ≡ true
sized_from low high n a b c = grind (arith, nat_tests)

-- the greater of two is below what both are below
max_lt : (a b c : ℕ) → a < c → b < c → max a b < c
max_lt a b c p q = omega arith

-- the greater of two is at most what both are at most
max_le : (a b c : ℕ) → a ≤ c → b ≤ c → max a b ≤ c
max_le a b c p q = omega arith

-- a number is between two bounds
record Between (low high x : ℕ) : Type 0 where
  at_least : low ≤ x
  at_most : x ≤ high

-- the bytes so far go on just where some number between the bounds begins with them
between_reached : (low high : ℕ) → low ≤ high → Reaches (Between low high) (reaches low high)
between_reached low high order = record {
  some = λ k least e. let t = reaches_true low high k least e in
      let p = t.0 in
      let q = t.1 in
      reached k least p q;
  each = λ k least s.
      let a = s.fits.at_least in
      let b = s.fits.at_most in
      let c = s.below in
      reaches_from low high k least (omega arith) (omega arith);
}
  where
    reached : (k least : ℕ) → least ≤ high → low < least + span k
        → Reached (Between low high) k least
    reached k least p q =
        elim (cases_lt least low) [
          | inl lt ↦ record {
            over = low - least;
            below = omega arith;
            fits = record { at_least = omega arith; at_most = omega arith };
          }
          | inr ge ↦ record {
            over = 0;
            below = span_pos k;
            fits = record { at_least = omega arith; at_most = omega arith };
          }
        ]

-- the next bytes of a number between two bounds are read exactly, where some go on
Reads-between : {K : Type 0} (why : K) (low high : ℕ) → low ≤ high → (k least : ℕ)
    → reaches low high k least ≡ true
    → Reads (FittingDigits (Between low high) k least) (digits_at why low high k least)
Reads-between why low high order =
    Reads-fitting_digits why (Between low high) (reaches low high) (between_reached low high order)
    (digits_at why low high) (λ least bytes. refl) (λ k least bytes. refl)

-- x is the number of k bytes behind least, and is between the bounds
pub record Digits (low high k least : ℕ) (text : List ℕ) (x : ℕ) : Type 0 where
  pub over : ℕ
  pub spelled : text ≡ digits k over
  pub below : over < span k
  pub sum : x ≡ least + over
  pub at_least : low ≤ x
  pub at_most : x ≤ high

-- the next bytes of a number are read exactly, where the numbers behind least reach the bounds
pub Reads-digits : {K : Type 0} (why : K) (low high : ℕ) → low ≤ high → (k least : ℕ)
    → least ≤ high → low < least + span k
    → Reads (Digits low high k least) (digits_at why low high k least)
Reads-digits why low high order k least p q =
    Reads-as (FittingDigits (Between low high) k least) (Digits low high k least)
    (digits_at why low high k least) (digits_at why low high k least)
    (λ text x g. record {
      over = g.over;
      spelled = g.spelled;
      below = g.below;
      sum = g.sum;
      at_least = g.fits.at_least;
      at_most = g.fits.at_most;
    })
    (λ text x g. record {
      over = g.over;
      spelled = g.spelled;
      below = g.below;
      sum = g.sum;
      fits = record { at_least = g.at_least; at_most = g.at_most };
    })
    (λ bytes. refl)
    (Reads-between why low high order k least (reaches_from low high k least p q))

-- a number between two bounds is read exactly
pub Reads-num : {K : Type 0} (why : K) (low high : ℕ) → low ≤ high → high < 2 ^ 64
    → Reads (Num low high) (num_at why low high)
unfolding num_at
Reads-num why low high order fits =
    Reads-as (Spelled num (Between low high)) (Num low high) (num_at why low high)
    (num_at why low high)
    (λ text x g. record {
      spelled = g.bytes;
      at_least = g.fits.at_least;
      at_most = g.fits.at_most;
    })
    (λ text x g. record {
      bytes = g.spelled;
      fits = record { at_least = g.at_least; at_most = g.at_most };
    })
    (λ bytes. refl)
    (Reads-sized why (Between low high) (λ n. Between (max low (least_of n)) high) parts
    (sized low high) (λ n. digits_at why (max low (least_of n)) high n 0)
    (λ x f. let most = f.at_most in omega arith) (λ n e. (sized_true low high n e).0) passes
    (λ n e.
    let t = sized_true low high n e in
    let order' = max_le low (least_of n) high order t.1 in
    let lt = max_lt low (least_of n) (span n) t.2 (least-span n) in
    Reads-between why (max low (least_of n)) high order' n 0
    (reaches_from (max low (least_of n)) high n 0 (omega arith) (omega arith)))
    low (record { at_least = omega arith; at_most = order }))
  where
    parts : InSize (Between low high) (λ n. Between (max low (least_of n)) high)
    parts = record {
      fits = λ n x g.
          let a = g.at_least in
          record { at_least = omega arith; at_most = g.at_most };
      at_least = λ n x g. let a = g.at_least in omega arith;
      inside = λ n x g le.
          let a = g.at_least in
          record { at_least = omega arith; at_most = g.at_most };
    }

    passes : (x : ℕ) → Between low high x → sized low high (size x) ≡ true
    passes x g =
        let a = g.at_least in
        let b = g.at_most in
        let s = size_sized x (omega arith) in
        let c = s.at_least in
        let d = s.below in
        sized_from low high (size x) (size_le x) (omega arith) (omega arith)

-- ---- a text within a limit

-- a text within a limit, behind its length, is read exactly
pub Reads-counted_text : {K : Type 0} (why : K) (limit : ℕ) → limit < 2 ^ 64
    → Reads (CountedText limit) (counted_at why limit)
unfolding counted_at
Reads-counted_text why limit fits =
    Reads-as (Then (Num 0 limit) Bytes) (CountedText limit) (counted_at why limit)
    (counted_at why limit) there back (λ bytes. refl)
    (Reads-then (Num 0 limit) Bytes (num_at why 0 limit) (λ n. bytes_of n)
    (Reads-num why 0 limit (omega arith) fits) (λ n text g. Reads-bytes n))
  where
    there : (text bytes : List ℕ) → Then (Num 0 limit) Bytes text bytes
        → CountedText limit text bytes
    there text bytes g =
        let len = g.second.len in
        let most = g.first.at_most in
        record {
          spelled = g.parts ∙ ap (λ (w : List ℕ). w ++ g.back) (g.first.spelled ∙ ap num (sym len))
              ∙ ap (λ (w : List ℕ). num (length bytes) ++ w) g.second.same;
          within = omega arith;
          small = g.second.small;
        }

    back : (text bytes : List ℕ) → CountedText limit text bytes
        → Then (Num 0 limit) Bytes text bytes
    back text bytes g = record {
      value = length bytes;
      front = num (length bytes);
      back = bytes;
      parts = g.spelled;
      first = record { spelled = refl; at_least = omega arith; at_most = g.within };
      second = record { same = refl; len = refl; small = g.small };
    }

-- ---- a signed number

-- each unsigned number stands for one signed number
zigzag-unzigzag : (n : ℕ) → zigzag (unzigzag n) ≡ n
zigzag-unzigzag n =
    elim (cases_even n) [
      | inl e ↦ rw (eq-eqb (n % 2) 0 e) (omega arith)
      | inr o ↦ let ne : n % 2 ≡ 0 → ⊥ = λ (e : n % 2 ≡ 0). omega arith in
          rw (ne_eqb (n % 2) 0 ne) (omega arith)
    ]
  where
    cases_even : (n : ℕ) → (n % 2 ≡ 0) ⊎ (n % 2 ≡ 1)
    cases_even n =
        elim (cases_lt (n % 2) 1) [ inl lt ↦ inl (omega arith) | inr ge ↦ inr (omega arith) ]

-- which it is spelled by
unzigzag-zigzag : (z : ℤ) → unzigzag (zigzag z) ≡ z
unzigzag-zigzag (pos n) =
    let e : 2 * n % 2 ≡ 0 = omega arith in
    let h : 2 * n / 2 ≡ n = omega arith in
    rw (eq-eqb (2 * n % 2) 0 e, h) refl
unzigzag-zigzag (negsuc n) =
    let ne : (2 * n + 1) % 2 ≡ 0 → ⊥ = λ (e : (2 * n + 1) % 2 ≡ 0). omega arith in
    let h : (2 * n + 1) / 2 ≡ n = omega arith in
    rw (ne_eqb ((2 * n + 1) % 2) 0 ne, h) refl

-- a signed number is read exactly
pub Reads-signed : {K : Type 0} (why : K) → Reads Signed (signed_at why)
unfolding signed_at
Reads-signed why =
    Reads-as (Mapped unzigzag (Num 0 18446744073709551615)) Signed (signed_at why)
    (signed_at why) there back (λ bytes. refl)
    (Reads-mapped unzigzag (Num 0 18446744073709551615) (num_at why 0 18446744073709551615)
    (Reads-num why 0 18446744073709551615 (omega arith) (omega arith)))
  where
    there : (text : List ℕ) (z : ℤ) → Mapped unzigzag (Num 0 18446744073709551615) text z
        → Signed text z
    there text z g =
        let e : zigzag z ≡ g.value = ap zigzag (sym g.same) ∙ zigzag-unzigzag g.value in
        let most = g.spelled.at_most in
        record { spelled = g.spelled.spelled ∙ ap num (sym e); small = rw e (omega arith) }

    back : (text : List ℕ) (z : ℤ) → Signed text z
        → Mapped unzigzag (Num 0 18446744073709551615) text z
    back text z g =
        let small = g.small in
        record {
          value = zigzag z;
          spelled = record { spelled = g.spelled; at_least = omega arith; at_most = omega arith };
          same = unzigzag-zigzag z;
        }
