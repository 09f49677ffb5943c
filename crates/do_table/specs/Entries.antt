-- A table as the list of its entries, each a name with its value.
use Rattle.std.specs.Prelude.{ℕ, Bool, true, not, ◌&&◌, is_some, List, [], ◌∷◌, ◌++◌, Option, Some}
use Rattle.std.specs.{Prelude.{None, if◌then◌else◌, nat_le, length}, List.list_all, Borrow.Bor}
use Rattle.std.specs.{Map.{lookup, remove_entry, set_value}, Str.bytes_eq}

-- the value of a name
abbrev pub value_of : {V : Type 0} → List (List ℕ × V) → List ℕ → Option V
value_of es name = lookup (bytes_eq name) es

-- the entries with a name that is new behind the others
abbrev pub added : {V : Type 0} → List (List ℕ × V) → List ℕ → V → List (List ℕ × V)
added es name value = if is_some (value_of es name) then es else es ++ (name, value) ∷ []

-- the entries with one more, where there is room for it
abbrev pub entered : {V : Type 0} → List (List ℕ × V) → List ℕ × V → Bool → List (List ℕ × V)
entered es e room = if room then added es e.0 e.1 else es

-- the entries without a name
abbrev pub removed : {V : Type 0} → List (List ℕ × V) → List ℕ → List (List ℕ × V)
removed es name = remove_entry (bytes_eq name) es

-- the entries with another value under a name, if it is there
abbrev pub replaced : {V : Type 0} → List (List ℕ × V) → List ℕ → V → List (List ℕ × V)
replaced es name value = set_value (bytes_eq name) es value

-- no name is there twice
abbrev pub are_distinct : {V : Type 0} → List (List ℕ × V) → Bool
are_distinct [] = true
are_distinct (e ∷ es) = not (is_some (value_of es e.0)) && are_distinct es

-- at most as many entries, each of which passes, and no name twice
abbrev pub is_table : {V : Type 0} → ℕ → (List ℕ × V → Bool) → List (List ℕ × V) → Bool
is_table most test es = nat_le (length es) most && (list_all test es && are_distinct es)

-- the entries, where no name is there twice
abbrev pub once : {V : Type 0} → List (List ℕ × V) → Option (List (List ℕ × V))
once es = if are_distinct es then Some es else None

-- what a name has, or else this value where it is the name that is added
abbrev pub given : {V : Type 0} → Option V → V → Bool → Option V
given (Some had) value same = Some had
given None value same = if same then Some value else None

-- what a name has, unless it is the name that is taken out
abbrev pub unless : {V : Type 0} → Bool → Option V → Option V
unless same other = if same then None else other

-- the name and the value that two references point to
abbrev pub entry_shown : {V : Type 0} → Bor (List ℕ) × Bor V → List ℕ × V
entry_shown w = (w.0.now, w.1.now)
