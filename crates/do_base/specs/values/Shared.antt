-- The items behind a pointer.
use Rattle.std.specs.Prelude.{List, [], Option, Some, None}

-- the items, or the empty list where there is no pointer
abbrev pub or_empty : {X : Type 0} → Option (List X) → List X
or_empty None = []
or_empty (Some xs) = xs
