-- Names and their ports: in a list, and as slots.
use Rattle.std.specs.Prelude.{ℕ, pos, Bool, true, is_some, ◌&&◌, ◌==◌, nat_lt, Option, Some, None}
use Rattle.std.specs.Prelude.{List as Listed, [], ◌∷◌, ◌++◌, length, map, if◌then◌else◌}
use Rattle.std.specs.Prelude.{option_and_then}
use Rattle.do_base.specs.{values.Kinds.text, declared.values.value.Value.{Value, List}}
use Rattle.do_base.specs.declared.values.value.Value.TheVariants.{Num, Text}
use Rattle.do_native_acts.specs.{Ports.port_in, Rows.{rows_in, pair_in, listed}}
use Rattle.do_table.specs.Entries.{value_of, removed, is_table}

-- a name and its port
abbrev pub Entry : Type 0
Entry = Listed ℕ × ℕ

-- what is left and answered, where the name has this port or none
abbrev pub register_at : Listed Entry → Listed ℕ → ℕ → Option ℕ → Option (Listed Entry × Bool)
register_at es name port (Some has) = Some (es, has == port)
register_at es name port None =
    if nat_lt (length es) 512 then Some (es ++ (name, port) ∷ [], true) else None

-- The names after a name was given a port, and whether it has that port then. None where there is
-- no room for it.
abbrev pub registered : Listed Entry → Listed ℕ → ℕ → Option (Listed Entry × Bool)
registered es name port = register_at es name port (value_of es name)

-- the names without one, and whether it was there
abbrev pub unregistered : Listed Entry → Listed ℕ → Listed Entry × Bool
unregistered es name = (removed es name, is_some (value_of es name))

-- a name that is not empty, and a port from 1 to 65,535
abbrev pub is_entry : Entry → Bool
is_entry e = nat_lt 0 (length e.0) && (nat_lt 0 e.1 && nat_lt e.1 65536)

-- the names of a core: at most 512
abbrev pub are_names : Listed Entry → Bool
are_names es = is_table 512 is_entry es

-- the text, where it is not empty
abbrev pub name_in : Value → Option (Listed ℕ)
name_in v = option_and_then (λ s. if nat_lt 0 (length s) then Some s else None) (text v)

-- the entry that a value is: a list of a name and a port
abbrev pub entry_in : Value → Option Entry
entry_in v = pair_in name_in port_in v

-- an entry as a value
abbrev pub row : Entry → Value
row e = List (Text e.0 ∷ Num (pos e.1) ∷ [])

-- the entries, where they can be a core's
abbrev pub of_core : Listed Entry → Option (Listed Entry)
of_core es = if are_names es then Some es else None

-- the core whose slots these are
abbrev pub from_slots : Listed Value → Option (Listed Entry)
from_slots (slot ∷ []) = option_and_then of_core (rows_in entry_in slot)
from_slots _ = None

-- the slots of a core
abbrev pub to_slots : Listed Entry → Listed Value
to_slots es = listed (map row es) ∷ []
