-- Numbers of so many bytes are read exactly, where some are let through and others not.
use Rattle.std.proofs.Common.{◌≡◌, ℕ, zero, suc, ◌+◌, ◌*◌, ◌/◌, ◌%◌, ◌<◌, ◌≤◌, ◌^◌, Bool, true}
use Rattle.std.proofs.Common.{List, [], ◌∷◌, ◌++◌, refl, ap, subst, ◌∙◌, arith}
use Rattle.std.proofs.lemmas.Nat.{mul-add-lt, div-mul-add, mod-mul-add, div_below, div-add-mod'}
use Rattle.std.proofs.lemmas.Nat.{mod_below}
use Rattle.do_grammar.specs.Reader.{Reader, done, and_then, byte_of}
use Rattle.do_grammar.specs.Forms.{Then, Done, Byte, Passes}
use Rattle.do_grammar.specs.{Num.{span, digits, size, least_of, num}, OneSpelling.Spelled}
use Rattle.do_grammar.proofs.reads.ExactReader.{Reads, Reads-done, Reads-then, Reads-byte, Reads-as}
use Rattle.do_grammar.proofs.texts.SizeExact.{span_pos, size_le, size_sized, size_only}

-- x is the number of k bytes behind least, and is let through
pub record FittingDigits (Fits : ℕ → Type 0) (k least : ℕ) (text : List ℕ) (x : ℕ) : Type 0 where
  pub over : ℕ
  pub spelled : text ≡ digits k over
  pub below : over < span k
  pub sum : x ≡ least + over
  pub fits : Fits x

-- a number of k bytes behind least that is let through
pub record Reached (Fits : ℕ → Type 0) (k least : ℕ) : Type 0 where
  pub over : ℕ
  pub below : over < span k
  pub fits : Fits (least + over)

-- a test passes just where some number of k bytes behind least is let through
pub record Reaches (Fits : ℕ → Type 0) (goes : ℕ → ℕ → Bool) : Type 0 where
  pub some : (k least : ℕ) → goes k least ≡ true → Reached Fits k least
  pub each : (k least : ℕ) → Reached Fits k least → goes k least ≡ true

-- a reader that lets a byte through where the test passes behind it
module _ {K : Type 0} (why : K) (Fits : ℕ → Type 0) (goes : ℕ → ℕ
    → Bool) (reach : Reaches Fits goes) (read : ℕ → ℕ → Reader K ℕ)
    (read_none : (least : ℕ) (bytes : List ℕ) → done least bytes ≡ read 0 least bytes)
    (read_more : (k least : ℕ) (bytes : List ℕ)
    → and_then (byte_of (λ b. goes k (least + b * span k)) (λ b. why))
    (λ b. read k (least + b * span k)) bytes ≡ read (suc k) least bytes) where
  -- some next byte leads on
  next_byte : (k least : ℕ) → goes (suc k) least ≡ true
      → Passes (λ b. goes k (least + b * span k))
  next_byte k least e =
      let s = reach.some (suc k) least e in
      let b : ℕ = s.over / span k in
      let whole : b * span k + s.over % span k ≡ s.over = div-add-mod' s.over (span k) in
      let sum : least + s.over ≡ (least + b * span k) + s.over % span k = omega arith in
      record {
        byte = b;
        small = div_below s.over (span k) 256 (span_pos k) s.below;
        passes = reach.each k (least + b * span k) (record {
          over = s.over % span k;
          below = mod_below s.over (span k) (span_pos k);
          fits = subst Fits sum s.fits;
        });
      }

  -- behind the last byte the number is known
  digits_none : (least : ℕ) → goes 0 least ≡ true
      → Reads (FittingDigits Fits 0 least) (read 0 least)
  digits_none least e =
      Reads-as (Done least) (FittingDigits Fits 0 least) (done least) (read 0 least) there back
      (read_none least) (Reads-done least)
    where
      fits : Fits least
      fits =
          let s = reach.some 0 least e in
          let lt = s.below in
          let none : least + s.over ≡ least = omega arith in
          subst Fits none s.fits

      there : (text : List ℕ) (x : ℕ) → Done least text x → FittingDigits Fits 0 least text x
      there text x g =
          let e = g.same in
          record {
            over = 0;
            spelled = g.nothing;
            below = omega arith;
            sum = omega arith;
            fits = subst Fits e fits;
          }

      back : (text : List ℕ) (x : ℕ) → FittingDigits Fits 0 least text x → Done least text x
      back text x g = record { nothing = g.spelled; same = omega (arith, g.sum, g.below) }

  -- the next bytes of a number that is let through are read exactly
  pub Reads-fitting_digits : (k least : ℕ) → goes k least ≡ true
      → Reads (FittingDigits Fits k least) (read k least)
  Reads-fitting_digits zero least e = digits_none least e
  Reads-fitting_digits (suc k) least e =
      Reads-as (Then (Byte test) rest_of) (FittingDigits Fits (suc k) least)
      (and_then (byte_of test (λ b. why)) (λ b. read k (least + b * span k))) (read (suc k) least)
      there back (read_more k least)
      (Reads-then (Byte test) rest_of (byte_of test (λ b. why))
      (λ b. read k (least + b * span k)) (Reads-byte test (λ b. why) (next_byte k least e))
      (λ b text g. Reads-fitting_digits k (least + b * span k) g.passes))
    where
      test : ℕ → Bool
      test = λ b. goes k (least + b * span k)

      rest_of : ℕ → List ℕ → ℕ → Type 0
      rest_of = λ b. FittingDigits Fits k (least + b * span k)

      there : (text : List ℕ) (x : ℕ) → Then (Byte test) rest_of text x
          → FittingDigits Fits (suc k) least text x
      there text x g =
          let v : ℕ = g.value * span k + g.second.over in
          let high_byte : v / span k ≡ g.value =
          div-mul-add g.value (span k) g.second.over g.second.below in
          let others : v % span k ≡ g.second.over =
          mod-mul-add g.value (span k) g.second.over g.second.below in
          record {
            over = v;
            spelled = g.parts ∙ ap (λ (w : List ℕ). w ++ g.back) g.first.alone
                ∙ rw (high_byte, others) (ap (λ (w : List ℕ). g.value ∷ w) g.second.spelled);
            below = omega (
              arith,
              mul-add-lt g.value (span k) g.second.over 256 g.first.small g.second.below,
            );
            sum = omega (arith, g.second.sum);
            fits = g.second.fits;
          }

      back : (text : List ℕ) (x : ℕ) → FittingDigits Fits (suc k) least text x
          → Then (Byte test) rest_of text x
      back text x g =
          let b : ℕ = g.over / span k in
          let e : b * span k + g.over % span k ≡ g.over = div-add-mod' g.over (span k) in
          let m : g.over % span k < span k = mod_below g.over (span k) (span_pos k) in
          let sum = g.sum in
          let whole : x ≡ least + b * span k + g.over % span k = omega arith in
          record {
            value = b;
            front = b ∷ [];
            back = digits k (g.over % span k);
            parts = g.spelled;
            first = record {
              alone = refl;
              passes = reach.each k (least + b * span k) (record {
                over = g.over % span k;
                below = m;
                fits = subst Fits whole g.fits;
              });
              small = div_below g.over (span k) 256 (span_pos k) g.below;
            };
            second = record {
              over = g.over % span k;
              spelled = refl;
              below = m;
              sum = whole;
              fits = g.fits;
            };
          }

-- ---- behind the byte that says how many bytes a number has

-- what is let through of n bytes is what is let through at all, from the least of n bytes on
pub record InSize (Fits : ℕ → Type 0) (In : ℕ → ℕ → Type 0) : Type 0 where
  pub fits : (n x : ℕ) → In n x → Fits x
  pub at_least : (n x : ℕ) → In n x → least_of n ≤ x
  pub inside : (n x : ℕ) → Fits x → least_of n ≤ x → In n x

module _ {K : Type 0} (why : K) (Fits : ℕ → Type 0) (In : ℕ → ℕ
    → Type 0) (parts : InSize Fits In) (sized : ℕ → Bool) (read : ℕ → Reader K ℕ)
    (small : (x : ℕ) → Fits x → x < 2 ^ 64) (short : (n : ℕ) → sized n ≡ true → n ≤ 8)
    (passes : (x : ℕ) → Fits x → sized (size x) ≡ true)
    (R : (n : ℕ) → sized n ≡ true → Reads (FittingDigits (In n) n 0) (read n)) where
  -- a number that is let through, where there is one, is read exactly
  pub Reads-sized : (x : ℕ) → Fits x
      → Reads (Spelled num Fits) (and_then (byte_of sized (λ b. why)) read)
  unfolding num
  Reads-sized x fit =
      Reads-as (Then (Byte sized) rest_of) (Spelled num Fits) both both there back (λ bytes. refl)
      (Reads-then (Byte sized) rest_of (byte_of sized (λ b. why)) read
      (Reads-byte sized (λ b. why) some) (λ n text g. R n g.passes))
    where
      rest_of : ℕ → List ℕ → ℕ → Type 0
      rest_of = λ n. FittingDigits (In n) n 0

      both : Reader K ℕ
      both = and_then (byte_of sized (λ b. why)) read

      some : Passes sized
      some =
          record { byte = size x; small = omega (arith, size_le x); passes = passes x fit }

      there : (text : List ℕ) (x : ℕ) → Then (Byte sized) rest_of text x
          → Spelled num Fits text x
      there text x g =
          let over : g.second.over ≡ x = omega (arith, g.second.sum) in
          let lt = g.second.below in
          let n : size x ≡ g.value =
          size_only g.value x (short g.value g.first.passes)
          (record { at_least = parts.at_least g.value x g.second.fits; below = omega arith }) in
          record {
            bytes = g.parts ∙ ap (λ (w : List ℕ). w ++ g.back) g.first.alone
                ∙ rw n (ap (λ (w : List ℕ). g.value ∷ w) (g.second.spelled
                ∙ ap (digits g.value) over));
            fits = parts.fits g.value x g.second.fits;
          }

      back : (text : List ℕ) (x : ℕ) → Spelled num Fits text x
          → Then (Byte sized) rest_of text x
      back text x g =
          let s = size_sized x (small x g.fits) in
          record {
            value = size x;
            front = size x ∷ [];
            back = digits (size x) x;
            parts = g.bytes;
            first = record {
              alone = refl;
              passes = passes x g.fits;
              small = omega (arith, size_le x);
            };
            second = record {
              over = x;
              spelled = refl;
              below = s.below;
              sum = omega arith;
              fits = parts.inside (size x) x g.fits s.at_least;
            };
          }
