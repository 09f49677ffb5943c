-- The types of pasteboards.
use Rattle.std.specs.Prelude.{ℕ, Bool, true, not, ◌&&◌, nat_lt, nat_le, length, if◌then◌else◌}
use Rattle.std.specs.{Prelude.{Option, Some, None, List, [], ◌∷◌}, List.{list_all, list_any}}
use Rattle.std.specs.Str.{bytes_eq}
use Rattle.do_base.specs.{values.Kinds.text, declared.values.value.Value.Value}
use Rattle.do_grammar.specs.Words.{◌>>?◌}
use Rattle.do_native_acts.specs.Rows.{list_in}

-- a type has 1 to 255 bytes
abbrev pub is_type : List ℕ → Bool
is_type t = nat_lt 0 (length t) && nat_le (length t) 255

-- no text is there twice
abbrev pub are_distinct : List (List ℕ) → Bool
are_distinct [] = true
are_distinct (t ∷ ts) = not (list_any (bytes_eq t) ts) && are_distinct ts

-- the types of a pasteboard: at most 64, none of them twice
abbrev pub are_types : List (List ℕ) → Bool
are_types types = nat_le (length types) 64 && (list_all is_type types && are_distinct types)

-- a list of types
abbrev pub types_in : Value → Option (List (List ℕ))
types_in v = list_in text v >>? λ types. if are_types types then Some types else None
