-- How many bytes a number takes.
use Rattle.std.proofs.Common.{◌≡◌, ℕ, zero, suc, ◌≤◌, ◌<◌, Bool, true, false, cond, length, nat_lt}
use Rattle.std.proofs.{Common.{refl, ap, ◌∙◌, arith, ◌%◌}, lemmas.Grind.common_steps}
use Rattle.do_grammar.specs.Num.{digits, num, size, size_within, span}

-- so many bytes are as many
digits_count : (k x : ℕ) → length (digits k x) ≡ k
digits_count zero x = refl
digits_count (suc k) x = ap suc (digits_count k (x % span k))

-- a number needs no more bytes than so many
size_most : (k x : ℕ) → size_within k x ≤ k
size_most zero x = omega arith
size_most (suc k) x = go (nat_lt x (span k)) (size_most k x)
  where
    go : (b : Bool) → size_within k x ≤ k → cond b (size_within k x) (suc k) ≤ suc k
    go true h = omega (arith, h)
    go false h = omega arith

-- a number below that of one byte less needs no more
size_less : (k x : ℕ) → nat_lt x (span k) ≡ true → size_within (suc k) x ≡ size_within k x
size_less k x h = ap (λ b. cond b (size_within k x) (suc k)) h

-- a number takes at most nine bytes
pub num_short : (x : ℕ) → length (num x) ≤ 9
unfolding num size
num_short x = omega (arith, digits_count (size_within 8 x) x, size_most 8 x)

-- a number below 2^48 takes at most seven
pub num_small : (x : ℕ) → x < 281474976710656 → length (num x) ≤ 7
unfolding num size
num_small x h =
    let seven : nat_lt x (span 7) ≡ true = grind (arith, common_steps, h) in
    let six : nat_lt x (span 6) ≡ true = grind (arith, common_steps, h) in
    let same = size_less 7 x seven ∙ size_less 6 x six in
    omega (arith, digits_count (size_within 8 x) x, same, size_most 6 x)
