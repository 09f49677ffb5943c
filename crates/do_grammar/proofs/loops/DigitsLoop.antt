-- The steps of the loops over the bytes of a number.
use Rattle.std.proofs.Common.{◌≡◌, ℕ, zero, suc, ◌+◌, ◌-◌, ◌*◌, ◌/◌, ◌%◌, ◌<◌, ◌≤◌, true, false}
use Rattle.std.proofs.Common.{cond, ltb, leb, List, [], ◌∷◌, length, Result, Ok, Err, refl, arith}
use Rattle.std.specs.Prelude.{◌&&◌}
use Rattle.std.proofs.lemmas.{Bool.{lt-ltb, le-ltb, le-leb, lt-leb}, Nat.div_below}
use Rattle.do_grammar.specs.Reader.{Stop, no_kind, short, bad, ◌>>=◌}
use Rattle.do_grammar.{specs.Num.{span, digits, digits_at}, proofs.texts.SizeExact.span_pos}

-- no byte of the number is left
pub at_last : (low high least k : ℕ) (bytes : List ℕ) → k ≡ 0
    → digits_at no_kind low high k least bytes ≡ Ok (least, bytes)
at_last low high least k bytes e = rw e refl

-- the bytes end before the number does
pub at_end : (low high least k : ℕ) (bytes : List ℕ) → 0 < k → bytes ≡ []
    → digits_at no_kind low high k least bytes ≡ Err short
at_end low high least zero bytes h e = absurd (omega arith)
at_end low high least (suc k) bytes h e = rw e refl

-- a byte with which a number between the bounds goes on
pub at_byte : (low high least : ℕ) (k b : ℕ) (bytes after : List ℕ) → 0 < k → bytes ≡ b ∷ after
    → least + b * span (k - 1) ≤ high → low < (least + b * span (k - 1)) + span (k - 1)
    → digits_at no_kind low high k least bytes
    ≡ digits_at no_kind low high (k - 1) (least + b * span (k - 1)) after
at_byte low high least zero b bytes after h parts p q = absurd (omega arith)
at_byte low high least (suc k) b bytes after h parts p q =
    let e : suc k - 1 ≡ k = omega arith in
    let p' = rw e at p in
    let q' = rw e at q in
    rw (
      parts,
      e,
      le-leb (least + b * span k) high p',
      lt-ltb low ((least + b * span k) + span k) q',
    )
    refl

-- a byte with which all numbers are above the bounds
pub at_over : (low high least : ℕ) (k b : ℕ) (bytes after : List ℕ) → 0 < k → bytes ≡ b ∷ after
    → high < least + b * span (k - 1)
    → digits_at no_kind low high k least bytes ≡ Err (bad no_kind (length bytes))
at_over low high least zero b bytes after h parts p = absurd (omega arith)
at_over low high least (suc k) b bytes after h parts p =
    let e : suc k - 1 ≡ k = omega arith in
    let p' = rw e at p in
    rw (parts, lt-leb (least + b * span k) high p') refl

-- a byte with which all numbers are below them
pub at_under : (low high least : ℕ) (k b : ℕ) (bytes after : List ℕ) → 0 < k
    → bytes ≡ b ∷ after → (least + b * span (k - 1)) + span (k - 1) ≤ low
    → digits_at no_kind low high k least bytes ≡ Err (bad no_kind (length bytes))
at_under low high least zero b bytes after h parts p = absurd (omega arith)
at_under low high least (suc k) b bytes after h parts p =
    let e : suc k - 1 ≡ k = omega arith in
    let p' = rw e at p in
    let f = le-ltb low ((least + b * span k) + span k) p' in
    rw parts
    (elim (leb (least + b * span k) high) as (λ t.
    ((cond {A =
    Result (ℕ × List ℕ) (Stop (Unit {0}))} (t && ltb low ((least + b * span k) + span k))
    (Ok (b, after)) (Err (bad no_kind (suc (length after)))) >>= λ (x : ℕ × List ℕ).
    digits_at no_kind low high k (least + x.0 * span k) x.1))
    ≡ Err (bad no_kind (suc (length after)))) [ true ↦ rw f refl | false ↦ refl ])

pub ruleset digits_facts = (at_last, at_end, at_byte, at_over, at_under)

-- a number of no byte has no digit
pub push_last : (k x : ℕ) → k ≡ 0 → digits k x ≡ []
push_last k x e = rw e refl

-- its highest byte, and the others behind it
pub push_step : (k x : ℕ) → 0 < k
    → digits k x ≡ x / span (k - 1) ∷ digits (k - 1) (x % span (k - 1))
push_step zero x h = absurd (omega arith)
push_step (suc k) x h = let p : suc k - 1 ≡ k = omega arith in rw p refl

-- the highest byte is one
pub step_below : (k x : ℕ) → 0 < k → x < span k → x / span (k - 1) < 256
step_below zero x h l = absurd (omega arith)
step_below (suc k) x h l =
    let p : suc k - 1 ≡ k = omega arith in
    rw p (div_below x (span k) 256 (span_pos k) l)

pub ruleset push_facts = (push_last, push_step, step_below)
