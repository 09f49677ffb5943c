-- Lists as slots keep them: nil where there is nothing.
use Rattle.std.specs.{Prelude.{Option, Some, None, List as Listed, [], ◌∷◌}, Option.option_map}
use Rattle.do_base.specs.{values.Kinds.items, declared.values.value.Value.{Value, List, out-Value}}
use Rattle.do_base.specs.declared.values.value.Value.{TheVariants.Nil, TheOpen.Value-F}
use Rattle.do_grammar.specs.Words.{◌>>?◌}

-- one in front of the others, where both are there
abbrev pub with_first : {A : Type 0} → Option A → Option (Listed A) → Option (Listed A)
with_first None others = None
with_first (Some x) others = option_map (λ xs. x ∷ xs) others

-- what is read of each value, where each can be read
abbrev pub read_all : {A : Type 0} → (Value → Option A) → Listed Value → Option (Listed A)
read_all read [] = Some []
read_all read (v ∷ vs) = with_first (read v) (read_all read vs)

-- what is read of each item of a list
abbrev pub list_in : {A : Type 0} → (Value → Option A) → Value → Option (Listed A)
list_in read v = items v >>? read_all read

-- the pair that two items are
abbrev pub pair_of : {A B : Type 0} → (Value → Option A) → (Value → Option B) → Listed Value
    → Option (A × B)
pair_of first second (v ∷ w ∷ []) = first v >>? λ a. option_map (λ b. (a, b)) (second w)
pair_of first second _ = None

-- the pair that a list of two items is
abbrev pub pair_in : {A B : Type 0} → (Value → Option A) → (Value → Option B) → Value
    → Option (A × B)
pair_in first second v = items v >>? pair_of first second

-- the rows that a level of a value holds
abbrev rows_level : {A : Type 0} → (Value → Option A) → Value-F Value → Option (Listed A)
rows_level read Value-F.Nil = Some []
rows_level read (Value-F.List (v ∷ vs)) = read_all read (v ∷ vs)
rows_level read _ = None

-- the rows that a slot holds
abbrev pub rows_in : {A : Type 0} → (Value → Option A) → Value → Option (Listed A)
rows_in read v = rows_level read (out-Value v)

-- a list as a slot keeps it
abbrev pub listed : Listed Value → Value
listed [] = Nil
listed (v ∷ vs) = List (v ∷ vs)
