-- Frames on a stream are read exactly.
use Rattle.std.proofs.Common.{◌≡◌, ℕ, ◌≤◌, Bool, true, false, List, [], ◌∷◌, ◌++◌, length, refl, ap}
use Rattle.std.{proofs.Common.{◌∙◌, arith}, specs.Prelude.◌==◌, proofs.lemmas.Bool.eq-eqb}
use Rattle.std.proofs.lemmas.Bool.Decides.{nat_tests}
use Rattle.do_grammar.specs.{Forms.{Done, Then, Byte, Bytes}, Grammar.IsBytes}
use Rattle.do_grammar.specs.{Num.{digits, digits_at}, OneSpelling.{Spelled, both}}
use Rattle.do_grammar.specs.Reader.{Reader, no_kind, done, and_then, byte_of, bytes_of}
use Rattle.do_grammar.proofs.reads.ExactReader.{Reads, Reads-done, Reads-then, Reads-byte, Reads-as}
use Rattle.do_grammar.proofs.reads.FormsExact.{Reads-bytes}
use Rattle.do_grammar.proofs.reads.OneSpellingExact.{Reads-both, Reads-onto}
use Rattle.do_grammar.proofs.texts.NumExact.{Digits, Reads-digits}
use Rattle.do_frames.specs.{Frames.raw_spelling, Streams.{IsRaw, greeting, Front, is_kind, just}}
use Rattle.do_frames.specs.Streams.{raw_of, frame_at, front_at}

-- ---- just some bytes

-- just these bytes
abbrev Just : List ℕ → List ℕ → Unit {0} → Type 0
Just text = Spelled (λ u. text) (λ u. Unit {0})

is_same : (b c : ℕ) → (c == b) ≡ true → c ≡ b
is_same b c e = grind (arith, nat_tests)

-- just these bytes are read exactly
Reads-just : (text : List ℕ) → IsBytes text → Reads (Just text) (just text)
Reads-just [] small =
    Reads-as (Done tt) (Just []) (done tt) (done tt)
    (λ bytes u g. record { bytes = g.nothing; fits = tt })
    (λ bytes u g. record { nothing = g.bytes; same = refl }) (λ bytes. refl) (Reads-done tt)
Reads-just (b ∷ text) small =
    Reads-as (Then (Byte test) (λ c. Just text)) (Just (b ∷ text)) (just (b ∷ text))
    (just (b ∷ text)) there back (λ bytes. refl)
    (Reads-then (Byte test) (λ c. Just text) (byte_of test (λ c. no_kind)) (λ c. just text)
    (Reads-byte test (λ c. no_kind)
    (record { byte = b; small = small.0; passes = eq-eqb b b refl }))
    (λ c bytes g. Reads-just text small.1))
  where
    test : ℕ → Bool
    test = λ c. c == b

    there : (bytes : List ℕ) (u : Unit {0}) → Then (Byte test) (λ c. Just text) bytes u
        → Just (b ∷ text) bytes u
    there bytes u g = record {
      bytes = g.parts ∙ ap (λ (w : List ℕ). w ++ g.back) g.first.alone
          ∙ ap (λ (w : List ℕ). g.value ∷ w) g.second.bytes
          ∙ ap (λ (w : ℕ). w ∷ text) (is_same b g.value g.first.passes);
      fits = tt;
    }

    back : (bytes : List ℕ) (u : Unit {0}) → Just (b ∷ text) bytes u
        → Then (Byte test) (λ c. Just text) bytes u
    back bytes u g = record {
      value = b;
      front = b ∷ [];
      back = text;
      parts = g.bytes;
      first = record { alone = refl; passes = eq-eqb b b refl; small = small.0 };
      second = record { bytes = refl; fits = tt };
    }

-- ---- a frame

-- the number of a kind
abbrev IsKind : ℕ → Type 0
IsKind b = (1 ≤ b) × (b ≤ 12)

kind_from : (b : ℕ) → is_kind b ≡ true → IsKind b
kind_from b e = (grind (arith, nat_tests), grind (arith, nat_tests))

from_kind : (b : ℕ) → IsKind b → is_kind b ≡ true
from_kind b h = let low = h.0 in let high = h.1 in grind (arith, nat_tests)

-- the number of a kind is read exactly
Reads-kind : Reads (Spelled (λ b. b ∷ []) IsKind) (byte_of is_kind (λ b. no_kind))
Reads-kind =
    Reads-as (Byte is_kind) (Spelled (λ b. b ∷ []) IsKind) (byte_of is_kind (λ b. no_kind))
    (byte_of is_kind (λ b. no_kind))
    (λ text b g. record { bytes = g.alone; fits = kind_from b g.passes })
    (λ text b g. let high = g.fits.1 in record {
      alone = g.bytes;
      passes = from_kind b g.fits;
      small = omega arith;
    })
    (λ bytes. refl)
    (Reads-byte is_kind (λ b. no_kind)
    (record { byte = 1; small = omega arith; passes = refl }))

-- a payload behind its length
abbrev IsPayload : List ℕ → Type 0
IsPayload t = (length t ≤ 2098176) × IsBytes t

abbrev sized : List ℕ → List ℕ
sized t = digits 4 (length t) ++ t

abbrev sized_at : Reader (Unit {0}) (List ℕ)
sized_at = and_then (digits_at no_kind 0 2098176 4 0) (λ n. bytes_of n)

-- a payload behind its length is read exactly
Reads-sized : Reads (Spelled sized IsPayload) sized_at
Reads-sized =
    Reads-as (Then (Digits 0 2098176 4 0) Bytes) (Spelled sized IsPayload) sized_at sized_at
    there back (λ bytes. refl)
    (Reads-then (Digits 0 2098176 4 0) Bytes (digits_at no_kind 0 2098176 4 0) (λ n. bytes_of n)
    (Reads-digits no_kind 0 2098176 (omega arith) 4 0 (omega arith) (omega arith))
    (λ n text g. Reads-bytes n))
  where
    there : (text t : List ℕ) → Then (Digits 0 2098176 4 0) Bytes text t
        → Spelled sized IsPayload text t
    there text t g =
        let sum = g.first.sum in
        let most = g.first.at_most in
        let len = g.second.len in
        let over : g.first.over ≡ length t = omega arith in
        record {
          bytes = g.parts
              ∙ ap (λ (w : List ℕ). w ++ g.back) (g.first.spelled ∙ ap (digits 4) over)
              ∙ ap (λ (w : List ℕ). digits 4 (length t) ++ w) g.second.same;
          fits = (omega arith, g.second.small);
        }

    back : (text t : List ℕ) → Spelled sized IsPayload text t
        → Then (Digits 0 2098176 4 0) Bytes text t
    back text t g =
        let most = g.fits.0 in
        record {
          value = length t;
          front = digits 4 (length t);
          back = t;
          parts = g.bytes;
          first = record {
            over = length t;
            spelled = refl;
            below = omega arith;
            sum = omega arith;
            at_least = omega arith;
            at_most = most;
          };
          second = record { same = refl; len = refl; small = g.fits.1 };
        }

-- a frame is read exactly
pub Reads-frame : Reads (Spelled raw_spelling IsRaw) frame_at
unfolding frame_at
Reads-frame =
    Reads-onto raw_of (λ p. (p.0 ∷ []) ++ sized p.1) (λ p. IsKind p.0 × IsPayload p.1)
    raw_spelling IsRaw (both (byte_of is_kind (λ b. no_kind)) (λ kind. sized_at))
    (Reads-both (λ b. b ∷ []) (λ b. sized) IsKind (λ b. IsPayload)
    (byte_of is_kind (λ b. no_kind)) (λ kind. sized_at) Reads-kind (λ b h. Reads-sized))
    (λ p h. (refl, record { kind = h.0; short = h.1.0; small = h.1.1 }))
    (λ f h. ((f.kind, f.payload), refl, (h.kind, (h.short, h.small))))

-- ---- the next frame of a stream

-- the greeting is bytes
greeting_small : (greeted : Bool) → IsBytes (greeting greeted)
greeting_small true = tt
greeting_small false =
    (omega arith, (omega arith, (omega arith, (omega arith, (omega arith, (omega arith, tt))))))

-- the next frame is read exactly, behind the greeting or without it
pub Reads-front : (greeted : Bool) → Reads (Front greeted) (front_at greeted)
unfolding front_at
Reads-front greeted =
    Reads-as (Then (Just (greeting greeted)) (λ u. Spelled raw_spelling IsRaw)) (Front greeted)
    (front_at greeted) (front_at greeted)
    (λ text f g. record {
      bytes = g.parts ∙ ap (λ (w : List ℕ). w ++ g.back) g.first.bytes
          ∙ ap (λ (w : List ℕ). greeting greeted ++ w) g.second.bytes;
      fits = g.second.fits;
    })
    (λ text f g. record {
      value = tt;
      front = greeting greeted;
      back = raw_spelling f;
      parts = g.bytes;
      first = record { bytes = refl; fits = tt };
      second = record { bytes = refl; fits = g.fits };
    })
    (λ bytes. refl)
    (Reads-then (Just (greeting greeted)) (λ u. Spelled raw_spelling IsRaw)
    (just (greeting greeted)) (λ u. frame_at) (Reads-just (greeting greeted)
    (greeting_small greeted)) (λ u text g. Reads-frame))
