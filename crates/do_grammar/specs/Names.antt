-- Names and selectors.
use Rattle.std.specs.Prelude.{ℕ, Bool, false, ◌==◌, ◌&&◌, ◌||◌, nat_le, List, [], ◌∷◌, length}
use Rattle.std.specs.{List.{list_all, count_by}, Char.{is_ascii_alphabetic, is_ascii_alphanumeric}}
use Rattle.std.specs.Io.BufRead.{ends_with_byte}

-- the first byte is a letter or `_`
abbrev pub begins_name : List ℕ → Bool
begins_name [] = false
begins_name (b ∷ bytes) = is_ascii_alphabetic b || b == 95

-- a letter, a digit or `_`
abbrev pub goes_in_name : ℕ → Bool
goes_in_name b = is_ascii_alphanumeric b || b == 95

-- a letter, a digit, `_` or `:`
abbrev pub goes_in_selector : ℕ → Bool
goes_in_selector b = goes_in_name b || b == 58

-- how many colons there are
abbrev pub colons : List ℕ → ℕ
colons bytes = count_by (λ b. b == 58) bytes

-- a name, of at most 64 bytes
unfoldable pub is_name : List ℕ → Bool
is_name bytes = begins_name bytes && list_all goes_in_name bytes && nat_le (length bytes) 64

-- a selector, of at most 255 bytes and 8 colons, the last of which ends it
unfoldable pub is_selector : List ℕ → Bool
is_selector bytes =
    begins_name bytes && list_all goes_in_selector bytes && nat_le (length bytes) 255 && nat_le
    (colons bytes) 8 && (colons bytes == 0 || ends_with_byte 58 bytes)
