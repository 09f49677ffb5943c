-- The words of a line.
use Rattle.std.specs.Prelude.{ℕ, zero, suc, ◌+◌, ◌==◌, not, List, [], ◌∷◌, length, take, drop}
use Rattle.std.specs.{Prelude.{Option, Some, None}, List.prefix_len, Option.option_map_or}
use Rattle.do_script.specs.Quoted.{quoted_size}

-- how many spaces stand in front
abbrev pub gap_size : List ℕ → ℕ
gap_size bytes = prefix_len (λ b. b == 32) bytes

-- how many bytes stand before the first space
abbrev pub plain_size : List ℕ → ℕ
plain_size bytes = prefix_len (λ b. not (b == 32)) bytes

-- how many bytes the word has with which the bytes begin: it goes up to a space, behind the text in
-- quotes if one is in front
abbrev pub word_size : List ℕ → ℕ
word_size bytes = quoted_size bytes + plain_size (drop (quoted_size bytes) bytes)

-- that word, and the bytes behind it
abbrev pub cut_word : List ℕ → Option (List ℕ × List ℕ)
cut_word [] = None
cut_word (b ∷ bytes) =
    Some (take (word_size (b ∷ bytes)) (b ∷ bytes), drop (word_size (b ∷ bytes)) (b ∷ bytes))

-- the first word of a line, and the bytes behind it
unfoldable pub first_word : List ℕ → Option (List ℕ × List ℕ)
first_word bytes = cut_word (drop (gap_size bytes) bytes)

-- the first n words of a line
abbrev pub words_within : ℕ → List ℕ → List (List ℕ)
words_within zero bytes = []
words_within (suc n) bytes = option_map_or (λ x. x.0 ∷ words_within n x.1) (first_word bytes) []

-- the words of a line, of which there are no more than bytes
unfoldable pub words : List ℕ → List (List ℕ)
words bytes = words_within (length bytes) bytes
