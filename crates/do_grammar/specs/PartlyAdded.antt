-- What a writer leaves where memory ran out.
use Rattle.std.specs.Prelude.{◌≡◌, ℕ, List, ◌++◌}

-- behind what stood there stands a front of what was to be added
pub record AddedPartly (old added new : List ℕ) : Type 0 where
  pub front : List ℕ
  pub more : List ℕ
  pub parts : added ≡ front ++ more
  pub now : new ≡ old ++ front
