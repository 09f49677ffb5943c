-- Numbers between two bounds and beside some that are left out.
use Rattle.std.specs.Prelude.{◌≡◌, ◌==◌, ℕ, zero, suc, ◌+◌, ◌*◌, ◌≤◌, Bool, false, List, [], ◌∷◌}
use Rattle.std.specs.{Prelude.{nat_lt, nat_le, max, ◌&&◌, if◌then◌else◌}, List.list_any}
use Rattle.do_grammar.specs.Reader.{Reader, no_kind, done, and_then, byte_of}
use Rattle.do_grammar.specs.Num.{span, least_of}

-- a number is left out
abbrev pub is_hole : List ℕ → ℕ → Bool
is_hole holes n = list_any (λ h. h == n) holes

-- the least number from n on that is not left out
abbrev pub next_beside : List ℕ → ℕ → ℕ
next_beside [] n = n
next_beside (h ∷ holes) n =
    if next_beside holes n == h then next_beside holes (suc h) else next_beside holes n

-- some number from one to another is not left out
abbrev pub some_beside : List ℕ → ℕ → ℕ → Bool
some_beside holes low high = nat_le (next_beside holes low) high

-- The bytes so far begin the numbers from least on, below span k more. Some of them lies between
-- the bounds and is not left out.
abbrev pub reaches_beside : List ℕ → ℕ → ℕ → ℕ → ℕ → Bool
reaches_beside holes low high k least =
    some_beside holes (max low least) high && nat_lt (next_beside holes (max low least))
    (least + span k)

-- the next k bytes of such a number
abbrev pub digits_beside : List ℕ → ℕ → ℕ → ℕ → ℕ → Reader (Unit {0}) ℕ
digits_beside holes low high zero least = done least
digits_beside holes low high (suc k) least =
    and_then (byte_of (λ b. reaches_beside holes low high k (least + b * span k)) (λ b. no_kind))
    (λ b. digits_beside holes low high k (least + b * span k))

-- some such number has n bytes
abbrev pub sized_beside : List ℕ → ℕ → ℕ → ℕ → Bool
sized_beside holes low high n = nat_le n 8 && reaches_beside holes (max low (least_of n)) high n 0

-- a number between two bounds that is not left out
unfoldable pub num_beside : List ℕ → ℕ → ℕ → Reader (Unit {0}) ℕ
num_beside holes low high =
    and_then (byte_of (sized_beside holes low high) (λ b. no_kind)) (λ n.
    digits_beside holes (max low (least_of n)) high n 0)

-- what fits
pub record IsBeside (holes : List ℕ) (low high n : ℕ) : Type 0 where
  pub at_least : low ≤ n
  pub at_most : n ≤ high
  pub beside : is_hole holes n ≡ false
