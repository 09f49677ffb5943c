-- A list with one item more.
use Rattle.std.specs.Prelude.{◌≡◌, ℕ, zero, suc, [], ◌∷◌, ◌++◌, true, Option, Some, None}
use Rattle.std.specs.Prelude.{List as Listed}
use Rattle.do_base.specs.values.{Kinds.items, Values.weight_of}
use Rattle.do_base.specs.declared.values.value.Value.{Value, List}
use Rattle.do_behave.specs.Lists.{can_be}

abbrev pub longer_than : Option (Listed Value) → Value → Value → Value
longer_than None value item = value
longer_than (Some vs) value item = List (vs ++ item ∷ [])

-- a list with one item more; any other value stays
abbrev pub longer : Value → Value → Value
longer value item = longer_than (items value) value item

-- values of which the one at a place has one item more, if it is there
abbrev pub longer_at : Listed Value → ℕ → Value → Listed Value
longer_at [] k item = []
longer_at (v ∷ vs) zero item = longer v item ∷ vs
longer_at (v ∷ vs) (suc k) item = v ∷ longer_at vs k item

-- a list that keeps the limits with one item more, and then has this weight
abbrev pub FitsIn : Value → Value → ℕ → Type 0
FitsIn value item weight = (vs : Listed Value) × (value ≡ List vs)
    × (can_be (vs ++ item ∷ []) ≡ true)
    × (weight ≡ weight_of (List (vs ++ item ∷ [])))
