-- Numbers and texts as bytes.
use Rattle.std.specs.Prelude.{ℤ, pos, negsuc, ◌==◌, ◌≡◌, ℕ, zero, suc, ◌+◌, ◌*◌, ◌/◌, ◌%◌, ◌<◌, ◌≤◌}
use Rattle.std.specs.Prelude.{◌^◌, Bool, List, [], ◌∷◌, ◌++◌, length, nat_lt, nat_le, max, ◌&&◌}
use Rattle.std.specs.Prelude.{if◌then◌else◌}
use Rattle.do_grammar.specs.Reader.{Reader, done, and_then, mapped, byte_of, bytes_of}
use Rattle.do_grammar.specs.Grammar.{IsBytes}

-- how many numbers so many bytes have
abbrev pub span : ℕ → ℕ
span zero = 1
span (suc k) = 256 * span k

-- so many bytes of a number, the highest first
abbrev pub digits : ℕ → ℕ → List ℕ
digits zero x = []
digits (suc k) x = x / span k ∷ digits k (x % span k)

-- how many bytes a number needs, of at most k
abbrev pub size_within : ℕ → ℕ → ℕ
size_within zero x = 0
size_within (suc k) x = if nat_lt x (span k) then size_within k x else suc k

-- how many bytes a number of 64 bits needs
unfoldable pub size : ℕ → ℕ
size x = size_within 8 x

-- the least number of so many bytes
abbrev pub least_of : ℕ → ℕ
least_of zero = 0
least_of (suc k) = span k

-- the number of bytes, and the bytes, of which the first isn't 0
unfoldable pub num : ℕ → List ℕ
num x = size x ∷ digits (size x) x

-- The bytes so far begin the numbers from least on, below span k more. Some of them lies between
-- the bounds.
abbrev pub reaches : ℕ → ℕ → ℕ → ℕ → Bool
reaches low high k least = nat_le least high && nat_lt low (least + span k)

-- the next k bytes of a number between the bounds
abbrev pub digits_at : {K : Type 0} → K → ℕ → ℕ → ℕ → ℕ → Reader K ℕ
digits_at why low high zero least = done least
digits_at why low high (suc k) least =
    and_then (byte_of (λ b. reaches low high k (least + b * span k)) (λ b. why)) (λ b.
    digits_at why low high k (least + b * span k))

-- some number of n bytes lies between the bounds
abbrev pub sized : ℕ → ℕ → ℕ → Bool
sized low high n = nat_le n 8 && (nat_le (least_of n) high && nat_lt low (span n))

-- a number between two bounds
unfoldable pub num_at : {K : Type 0} → K → ℕ → ℕ → Reader K ℕ
num_at why low high =
    and_then (byte_of (sized low high) (λ b. why)) (λ n.
    digits_at why (max low (least_of n)) high n 0)

-- a length within a limit, and the bytes
abbrev pub counted : List ℕ → List ℕ
counted bytes = num (length bytes) ++ bytes

-- a text of at most so many bytes: its length, and the bytes
unfoldable pub counted_at : {K : Type 0} → K → ℕ → Reader K (List ℕ)
counted_at why limit = and_then (num_at why 0 limit) (λ n. bytes_of n)

-- a signed number as an unsigned one: twice x from 0 on, else one less than twice its size
abbrev pub zigzag : ℤ → ℕ
zigzag (pos n) = 2 * n
zigzag (negsuc n) = 2 * n + 1

-- the signed number that an unsigned one stands for: its half, from 0 on where it is even, else
-- below 0
abbrev pub unzigzag : ℕ → ℤ
unzigzag n = if n % 2 == 0 then pos (n / 2) else negsuc (n / 2)

-- a signed number, read as the unsigned one of 64 bits that stands for it
unfoldable pub signed_at : {K : Type 0} → K → Reader K ℤ
signed_at why = mapped unzigzag (num_at why 0 18446744073709551615)

-- the spelling of a number between two bounds
pub record Num (low high : ℕ) (text : List ℕ) (x : ℕ) : Type 0 where
  pub spelled : text ≡ num x
  pub at_least : low ≤ x
  pub at_most : x ≤ high

-- the spelling of a text within a limit
pub record CountedText (limit : ℕ) (text bytes : List ℕ) : Type 0 where
  pub spelled : text ≡ counted bytes
  pub within : length bytes ≤ limit
  pub small : IsBytes bytes

-- the spelling of a signed number
pub record Signed (text : List ℕ) (z : ℤ) : Type 0 where
  pub spelled : text ≡ num (zigzag z)
  pub small : zigzag z < 2 ^ 64
