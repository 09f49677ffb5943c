-- Texts in quotes in a line, of at most `longest_text` bytes.
use Rattle.std.specs.Prelude.{ℕ, ◌-◌, List, [], ◌∷◌, length, Option, Some, None}
use Rattle.std.specs.Option.{option_map_or}
use Rattle.do_base.specs.values.Texts.{longest_text}
use Rattle.do_grammar.specs.{Words.◌>>?◌, Quoted.quoted_at}

-- how many bytes the text in quotes has that begins the bytes, or 0
unfoldable pub quoted_size : List ℕ → ℕ
quoted_size bytes = option_map_or (λ x. length bytes - length x.1) (quoted_at longest_text bytes) 0

-- nothing is left over
abbrev pub alone : List ℕ × List ℕ → Option (List ℕ)
alone (text, []) = Some text
alone (text, b ∷ rest) = None

-- the text that a word denotes
unfoldable pub quoted_in : List ℕ → Option (List ℕ)
quoted_in word = quoted_at longest_text word >>? alone
