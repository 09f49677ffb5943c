-- Lines of a text.
use Rattle.std.specs.{Prelude.{ℕ, List, [], ◌∷◌, ◌++◌}, List.flat_map}

-- lines in a row, each with its line feed
abbrev pub joined : List (List ℕ) → List ℕ
joined = flat_map (λ line. line ++ 10 ∷ [])
