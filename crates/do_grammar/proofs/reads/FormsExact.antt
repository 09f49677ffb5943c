-- Exact readers of repetitions, of other values, of so many bytes, and of one of two grammars.
use Rattle.std.proofs.Common.{◌≡◌, ℕ, zero, suc, ◌+◌, ◌<◌, Bool, true, false, cond, ltb, List, []}
use Rattle.std.proofs.Common.{◌∷◌, ◌++◌, length, take, drop, Ok, Err, refl, sym, ap, subst, ◌∙◌}
use Rattle.std.{proofs.Common.arith, specs.Prelude.◌-◌}
use Rattle.std.proofs.lemmas.{Bool.{ltb-true, ltb-false, le-ltb}, List.{append-nil, length-append}}
use Rattle.std.proofs.lemmas.List.{take_at, drop_at, take-append-drop, length-take-le}
use Rattle.do_grammar.specs.Reader.{short, bad, Reader, done, and_then, mapped, bytes_of, times}
use Rattle.do_grammar.specs.{Grammar.{IsBytes, Begins, Takes}, Forms.{Done, Then, Times, Mapped}}
use Rattle.do_grammar.{specs.Forms.{Bytes, Either}, proofs.reads.ExactReader.{StopsAt, Reads}}
use Rattle.do_grammar.proofs.reads.ExactReader.{IsBytes-append, Reads-done, Reads-then, Reads-as}
use Rattle.do_grammar.proofs.reads.ChainAnswers.{past_ok, past_err}

-- ---- one reader so many times

-- where it is read no time, the reader need not read anything
pub Reads-times : {K A : Type 0} (G : List ℕ → A → Type 0) (r : Reader K A) (n : ℕ)
    → (0 < n → Reads G r) → Reads (Times G n) (times r n)
Reads-times G r zero R = Reads-done []
Reads-times G r (suc n) R =
    Reads-then G (λ x. Then (Times G n) (λ ys. Done (x ∷ ys))) r (λ x.
    and_then (times r n) (λ ys. done (x ∷ ys))) (R (omega arith))
    (λ x text g.
    Reads-then (Times G n) (λ ys. Done (x ∷ ys)) (times r n) (λ ys. done (x ∷ ys))
    (Reads-times G r n (λ h. R (omega arith))) (λ ys text' g'. Reads-done (x ∷ ys)))

-- ---- another value

-- a value that another one stands for is read exactly
pub Reads-mapped : {K A B : Type 0} (to : A → B) (G : List ℕ → A → Type 0) (r : Reader K A)
    → Reads G r → Reads (Mapped to G) (mapped to r)
Reads-mapped {A = A} {B = B} to G r R =
    Reads-as (Then G (λ x. Done (to x))) (Mapped to G) (mapped to r) (mapped to r) there back
    (λ bytes. refl)
    (Reads-then G (λ x. Done (to x)) r (λ x. done (to x)) R (λ x text g. Reads-done (to x)))
  where
    there : (text : List ℕ) (y : B) → Then G (λ x. Done (to x)) text y → Mapped to G text y
    there text y g =
        let e : text ≡ g.front = g.parts ∙ ap (λ (w : List ℕ). g.front ++ w) g.second.nothing
        ∙ append-nil g.front in
        record { value = g.value; spelled = rw e g.first; same = g.second.same }

    back : (text : List ℕ) (y : B) → Mapped to G text y → Then G (λ x. Done (to x)) text y
    back text y g = record {
      value = g.value;
      front = text;
      back = [];
      parts = sym (append-nil text);
      first = g.spelled;
      second = record { nothing = refl; same = g.same };
    }

-- ---- so many bytes

-- so many bytes that are 0
zeros : ℕ → List ℕ
zeros zero = []
zeros (suc n) = 0 ∷ zeros n

-- these are bytes
zeros_bytes : (n : ℕ) → IsBytes (zeros n)
unfolding zeros
zeros_bytes zero = tt
zeros_bytes (suc n) = (omega arith, zeros_bytes n)

-- and so many
length-zeros : (n : ℕ) → length (zeros n) ≡ n
unfolding zeros
length-zeros zero = refl
length-zeros (suc n) = ap suc (length-zeros n)

-- the first of bytes are bytes
IsBytes-take : (n : ℕ) (bytes : List ℕ) → IsBytes bytes → IsBytes (take n bytes)
IsBytes-take zero bytes h = tt
IsBytes-take (suc n) [] h = tt
IsBytes-take (suc n) (b ∷ bytes) h = (h.0, IsBytes-take n bytes h.1)

module _ {K : Type 0} (n : ℕ) where
  -- so many bytes are read, whatever follows
  bytes_again : (text x rest : List ℕ) → Bytes n text x
      → bytes_of {K = K} n (text ++ rest) ≡ Ok (x, rest)
  bytes_again text x rest g =
      let len : length text ≡ n = ap length g.same ∙ g.len in
      rw (
        le-ltb (length (text ++ rest)) n (omega (arith, length-append text rest)),
        take_at text rest n len,
        drop_at text rest n len,
        g.same,
      ) refl

  -- what is read are so many bytes
  bytes_take : (bytes x rest : List ℕ) → IsBytes bytes → bytes_of {K = K} n bytes ≡ Ok (x, rest)
      → Takes (Bytes n) bytes x rest
  bytes_take bytes x rest h e =
      let c = past_ok (ltb (length bytes) n) short (take n bytes, drop n bytes) (x, rest) e in
      let front : take n bytes ≡ x = ap (λ (p : List ℕ × List ℕ). p.0) c.1 in
      let back : drop n bytes ≡ rest = ap (λ (p : List ℕ × List ℕ). p.1) c.1 in
      record {
        text = take n bytes;
        parts = sym (take-append-drop n bytes) ∙ ap (λ (w : List ℕ). take n bytes ++ w) back;
        spelled = record {
          same = front;
          len = ap length (sym front) ∙ length-take-le n bytes (ltb-false _ _ c.0);
          small = subst IsBytes front (IsBytes-take n bytes h);
        };
      }

  -- where there are fewer, so many bytes begin so
  bytes_end : (bytes : List ℕ) → IsBytes bytes → bytes_of {K = K} n bytes ≡ Err short
      → Begins (Bytes n) bytes
  bytes_end bytes h e =
      let c = past_err (ltb (length bytes) n) short short (take n bytes, drop n bytes) e in
      let lt = ltb-true _ _ c.0 in
      let more = zeros (n - length bytes) in
      record {
        more = more;
        value = bytes ++ more;
        spelled = record {
          same = refl;
          len = length-append bytes more
              ∙ ap (λ (k : ℕ). length bytes + k) (length-zeros (n - length bytes)) ∙ omega arith;
          small = IsBytes-append bytes more h (zeros_bytes (n - length bytes));
        };
      }

  -- no byte is refused
  bytes_stop : (bytes : List ℕ) (k : K) (left : ℕ) → IsBytes bytes
      → bytes_of n bytes ≡ Err (bad k left) → StopsAt (Bytes n) (bytes_of n) bytes k left
  bytes_stop bytes k left h e =
      let c = past_err (ltb (length bytes) n) short (bad k left) (take n bytes, drop n bytes) e in
      absurd cc

  -- so many bytes are read exactly
  pub Reads-bytes : Reads {K = K} (Bytes n) (bytes_of n)
  Reads-bytes = record {
    bytes = λ text x g. subst IsBytes (sym g.same) g.small;
    has_spelling = record {
      more = zeros n;
      value = zeros n;
      spelled = record { same = refl; len = length-zeros n; small = zeros_bytes n };
    };
    reads_spelling = bytes_again;
    sound = bytes_take;
    short_is_front = bytes_end;
    bad_is_first = bytes_stop;
  }

-- ---- one variant of several, which another value stands for

-- a variant that is spelled as the value inside it is read exactly
pub Reads-variant : {K A B : Type 0} (V : A → B) (G : List ℕ → A → Type 0) (H : List ℕ → B
    → Type 0) (r : Reader K A) → Reads G r → ((text : List ℕ) (x : A) → G text x → H text (V x))
    → ((text : List ℕ) (y : B) → H text y → Mapped V G text y) → Reads H (mapped V r)
Reads-variant {B = B} V G H r R there back =
    Reads-as (Mapped V G) H (mapped V r) (mapped V r) (λ text y g.
    subst (λ (w : B). H text w) g.same (there text g.value g.spelled)) back (λ bytes. refl)
    (Reads-mapped V G r R)

-- ---- one or the other, by a test

-- the grammar that a test chooses is read exactly by the reader that it chooses
pub Reads-either : {K A : Type 0} (t : Bool) (G H : List ℕ → A → Type 0) (r s : Reader K A)
    → (t ≡ true → Reads G r) → (t ≡ false → Reads H s) → Reads (Either t G H) (cond t r s)
Reads-either true G H r s R S = R refl
Reads-either false G H r s R S = S refl
