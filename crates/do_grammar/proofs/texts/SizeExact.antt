-- How many bytes a number needs.
use Rattle.std.proofs.Common.{◌≡◌, ℕ, zero, suc, ◌<◌, ◌≤◌, ◌^◌, sym, arith, inl, inr}
use Rattle.std.proofs.lemmas.Bool.{le-ltb, lt-ltb, cases_lt}
use Rattle.do_grammar.specs.Num.{span, size_within, size, least_of}

-- there is a number of so many bytes
pub span_pos : (k : ℕ) → 0 < span k
span_pos zero = omega arith
span_pos (suc k) = omega (arith, span_pos k)

-- a number needs at most so many bytes as there are
size_within_le : (k x : ℕ) → size_within k x ≤ k
size_within_le zero x = omega arith
size_within_le (suc k) x =
    elim (cases_lt x (span k)) [
      | inl lt ↦ rw (lt-ltb x (span k) lt) (omega (arith, size_within_le k x))
      | inr le ↦ rw (le-ltb x (span k) le) (omega arith)
    ]

-- more bytes have more numbers
span_mono : (n k : ℕ) → n ≤ k → span n ≤ span k
span_mono n zero le = rw (zero_of_le n le) (omega arith)
  where
    zero_of_le : (n : ℕ) → n ≤ 0 → n ≡ 0
    zero_of_le n le = omega arith
span_mono n (suc k) le =
    elim (cases_lt n (suc k)) [
      | inl lt ↦ omega (arith, span_mono n k (omega arith), span_pos k)
      | inr ge ↦ let e : n ≡ suc k = omega arith in rw e (omega arith)
    ]

-- a number has as many bytes as it needs
pub record Sized (n x : ℕ) : Type 0 where
  pub at_least : least_of n ≤ x
  pub below : x < span n

-- a number has the bytes that it needs
size_within_sized : (k x : ℕ) → x < span k → Sized (size_within k x) x
size_within_sized zero x h = record { at_least = omega arith; below = h }
size_within_sized (suc k) x h =
    elim (cases_lt x (span k)) [
      | inl lt ↦ rw (lt-ltb x (span k) lt) (size_within_sized k x lt)
      | inr le ↦ rw (le-ltb x (span k) le) (record { at_least = le; below = h })
    ]

-- and no other number of them
size_within_only : (k n x : ℕ) → n ≤ k → Sized n x → size_within k x ≡ n
size_within_only zero n x le s = omega arith
size_within_only (suc k) n x le s =
    elim (cases_lt n (suc k)) [
      | inl lt ↦ let m = span_mono n k (omega arith) in let b = s.below in let t : x < span k =
          omega arith in rw (lt-ltb x (span k) t) (size_within_only k n x (omega arith) s)
      | inr ge ↦ let e : n ≡ suc k = omega arith in let a = (rw e at s).at_least in
          rw (le-ltb x (span k) a) (sym e)
    ]

-- a number needs at most 8 bytes
pub size_le : (x : ℕ) → size x ≤ 8
unfolding size
size_le x = size_within_le 8 x

-- a number of 64 bits has the bytes that it needs
pub size_sized : (x : ℕ) → x < 2 ^ 64 → Sized (size x) x
unfolding size
size_sized x h = size_within_sized 8 x h

-- and no other number of them
pub size_only : (n x : ℕ) → n ≤ 8 → Sized n x → size x ≡ n
unfolding size
size_only n x le s = size_within_only 8 n x le s

-- each length has a number
pub least-span : (n : ℕ) → least_of n < span n
least-span zero = omega arith
least-span (suc n) = omega (arith, span_pos n)
