-- Texts in quotes, in which each byte stands for itself or as `\` and two hexadecimal digits.
use Rattle.std.specs.Prelude.{◌≡◌, ℕ, zero, suc, ◌+◌, ◌-◌, ◌*◌, ◌/◌, ◌%◌, ◌≤◌, ◌==◌, ◌&&◌, Bool}
use Rattle.std.specs.Prelude.{not, nat_le, nat_lt, List, [], ◌∷◌, ◌++◌, length, Option, Some, None}
use Rattle.std.specs.{Prelude.if◌then◌else◌, List.flat_map, Borrow.Bor}
use Rattle.do_grammar.specs.{Words.◌>>?◌, Grammar.IsBytes}

-- a byte that stands for itself: from the space to `~`, but neither `"` nor `\`
abbrev pub is_plain : ℕ → Bool
is_plain b = nat_le 32 b && nat_le b 126 && not (b == 34) && not (b == 92)

-- a hexadecimal digit, in lower case
abbrev pub hex_digit : ℕ → ℕ
hex_digit n = if nat_lt n 10 then 48 + n else 87 + n

-- how a byte stands between the quotes
abbrev pub quoted_byte : ℕ → List ℕ
quoted_byte b = if is_plain b then b ∷ [] else (92 ∷ hex_digit (b / 16) ∷ hex_digit (b % 16) ∷ [])

-- a text in quotes
abbrev pub quoted : List ℕ → List ℕ
quoted text = 34 ∷ (flat_map quoted_byte text ++ 34 ∷ [])

-- the spelling in quotes of a text within a limit
pub record Quoted (limit : ℕ) (text bytes : List ℕ) : Type 0 where
  pub spelled : text ≡ quoted bytes
  pub within : length bytes ≤ limit
  pub small : IsBytes bytes

-- the number that a hexadecimal digit is worth
abbrev pub hex_value : ℕ → Option ℕ
hex_value b =
    if nat_le 48 b && nat_le b 57 then Some
    (b - 48) else (if nat_le 97 b && nat_le b 102 then Some (b - 87) else None)

-- a byte that two digits stand for, which is none that stands for itself
abbrev pub escaped : ℕ → List ℕ → Option (ℕ × List ℕ)
escaped b rest = if is_plain b then None else Some (b, rest)

-- the byte that two digits stand for, and the bytes behind them
abbrev pub escape_at : List ℕ → Option (ℕ × List ℕ)
escape_at [] = None
escape_at (high ∷ []) = None
escape_at (high ∷ low ∷ rest) =
    hex_value high >>? λ h. hex_value low >>? λ l. escaped (h * 16 + l) rest

-- the first byte that is denoted, and the bytes behind it
abbrev pub piece_at : List ℕ → Option (ℕ × List ℕ)
piece_at [] = None
piece_at (b ∷ rest) =
    if is_plain b then Some (b, rest) else (if b == 92 then escape_at rest else None)

-- the bytes behind the quote that ends a text
abbrev pub closing : List ℕ → Option (List ℕ)
closing [] = None
closing (b ∷ rest) = if b == 34 then Some rest else None

-- nothing more where the text ends here, else the other
abbrev pub closed_or : Option (List ℕ) → Option (List ℕ × List ℕ) → Option (List ℕ × List ℕ)
closed_or None other = other
closed_or (Some rest) other = Some ([], rest)

-- at most so many more bytes that are denoted, up to the quote, and the bytes behind it
abbrev pub denoted : ℕ → List ℕ → Option (List ℕ × List ℕ)
denoted zero bytes = closed_or (closing bytes) None
denoted (suc n) bytes =
    closed_or (closing bytes) (piece_at bytes >>? λ p. denoted n p.1 >>? λ x. Some (p.0 ∷ x.0, x.1))

-- the text of at most so many bytes that stands in quotes at the front, and the bytes behind it
unfoldable pub quoted_at : ℕ → List ℕ → Option (List ℕ × List ℕ)
quoted_at limit [] = None
quoted_at limit (b ∷ bytes) = if b == 34 then denoted limit bytes else None

-- a byte or a text, and the bytes that a reference points to
abbrev pub front_view : {A : Type 0} → Option (A × Bor (List ℕ)) → Option (A × List ℕ)
front_view None = None
front_view (Some x) = Some (x.0, x.1.now)

-- the bytes that a reference points to
abbrev pub slice_view : Option (Bor (List ℕ)) → Option (List ℕ)
slice_view None = None
slice_view (Some rest) = Some rest.now
