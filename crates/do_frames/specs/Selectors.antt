-- Selectors behind their length, read byte by byte.
use Rattle.std.specs.Prelude.{◌≡◌, ◌==◌, ◌&&◌, ◌||◌, not, ℕ, zero, suc, ◌-◌, Bool, true, List, []}
use Rattle.std.specs.Prelude.{◌∷◌, nat_lt, if◌then◌else◌}
use Rattle.do_grammar.specs.{Names.{begins_name, goes_in_selector, is_selector}, Num.num_at}
use Rattle.do_grammar.specs.OneSpelling.{both}
use Rattle.do_grammar.specs.Reader.{Reader, no_kind, done, and_then, mapped, byte_of}

-- what has a spelling
abbrev pub IsSelector : List ℕ → Type 0
IsSelector bytes = is_selector bytes ≡ true

-- ---- reading

abbrev pub joined : ℕ × List ℕ → List ℕ
joined p = p.0 ∷ p.1

-- the first byte
abbrev pub begins_selector : ℕ → Bool
begins_selector b = begins_name (b ∷ [])

-- the colons so far after a byte
abbrev pub colons_after : ℕ → ℕ → ℕ
colons_after colons b = if b == 58 then suc colons else colons

-- A later byte, with so many behind it and so many colons before it. The last one is a colon if any
-- stood before it, and the eighth colon is the last byte.
abbrev pub follows_selector : ℕ → ℕ → ℕ → Bool
follows_selector left colons b =
    goes_in_selector b
    && (if left == 0 then b == 58 || colons == 0 else (not (b == 58) || nat_lt colons 7))

-- so many later bytes, with so many colons before them
abbrev pub later_at : ℕ → ℕ → Reader (Unit {0}) (List ℕ)
later_at zero colons = done []
later_at (suc left) colons =
    mapped joined
    (both (byte_of (follows_selector left colons) (λ b. no_kind)) (λ b.
    later_at left (colons_after colons b)))

-- so many bytes
abbrev pub letters_at : ℕ → Reader (Unit {0}) (List ℕ)
letters_at n =
    mapped joined (both (byte_of begins_selector (λ b. no_kind)) (λ b. later_at (n - 1) 0))

-- a selector behind its length
unfoldable pub selector_at : Reader (Unit {0}) (List ℕ)
selector_at = and_then (num_at no_kind 1 255) letters_at
