-- Services: in a list, and as slots.
use Rattle.std.specs.Prelude.{ℕ, pos, Bool, true, false, is_some, ◌&&◌, nat_lt, nat_le, Option}
use Rattle.std.specs.Prelude.{Some, None, List as Listed, [], ◌∷◌, ◌++◌, length, map, if◌then◌else◌}
use Rattle.std.specs.Str.{bytes_eq}
use Rattle.do_base.specs.{values.Kinds.{text, items}, declared.values.value.Value.{Value, List}}
use Rattle.do_base.specs.declared.values.value.Value.TheVariants.{Num, Text}
use Rattle.do_grammar.specs.{Names.is_name, Words.◌>>?◌}
use Rattle.do_native_acts.specs.{Ports.port_in, Rows.{rows_in, listed}, Types.{are_types, types_in}}
use Rattle.do_table.specs.Entries.{value_of, removed, is_table}
use Rattle.do_services.specs.declared.service.Service.{Service}

-- an item, and its service
abbrev pub Entry : Type 0
Entry = Listed ℕ × Service

-- a service with its item
abbrev pub keyed : Service → Entry
keyed s = (s.item, s)

-- what is left and answered, where the item has a service or none
abbrev pub add_at : Listed Entry → Service → Option Service → Option (Listed Entry × Bool)
add_at es s (Some has) = Some (es, false)
add_at es s None = if nat_lt (length es) 256 then Some (es ++ keyed s ∷ [], true) else None

-- The services with one more, and whether it is new: an item keeps its service. None where there is
-- no room.
abbrev pub with_service : Listed Entry → Service → Option (Listed Entry × Bool)
with_service es s = add_at es s (value_of es s.item)

-- the services without one, and whether it was there
abbrev pub without : Listed Entry → Listed ℕ → Listed Entry × Bool
without es item = (removed es item, is_some (value_of es item))

-- a message begins as a name of at most 40 bytes
abbrev pub is_message : Listed ℕ → Bool
is_message m = is_name m && nat_le (length m) 40

-- a message, a port from 1 to 65,535, and types that are sent and returned
abbrev pub is_service : Service → Bool
is_service s =
    is_message s.message && ((nat_lt 0 s.port && nat_lt s.port 65536)
    && (are_types s.send && are_types s.returned))

-- a service that stands under its item
abbrev pub is_entry : Entry → Bool
is_entry e = bytes_eq e.0 e.1.item && is_service e.1

-- the services of a core: at most 256
abbrev pub are_services : Listed Entry → Bool
are_services es = is_table 256 is_entry es

-- the message that a value is
abbrev pub message_in : Value → Option (Listed ℕ)
message_in v = text v >>? λ m. if is_message m then Some m else None

-- the service that items are
abbrev pub service_of : Listed Value → Option Service
service_of (item ∷ message ∷ port ∷ send ∷ returned ∷ user ∷ []) =
    text item >>? λ i. message_in message >>? λ m. port_in port >>? λ p. types_in send >>? λ s.
    types_in returned >>? λ r. Some (record {
      item = i;
      message = m;
      port = p;
      send = s;
      returned = r;
      user = user;
    })
service_of _ = None

-- the service that a value is
abbrev pub service_in : Value → Option Service
service_in v = items v >>? service_of

-- texts as a value
abbrev pub texts_value : Listed (Listed ℕ) → Value
texts_value ts = List (map Text ts)

-- a service as a value
abbrev pub row : Service → Value
row s =
    List (Text s.item ∷ Text s.message ∷ Num (pos s.port) ∷ texts_value s.send
    ∷ texts_value s.returned ∷ s.user ∷ [])

-- the services, where they are at most 256
abbrev pub few_services : Listed Entry → Option (Listed Entry)
few_services es = if nat_le (length es) 256 then Some es else None

-- the services, where they can be a core's
abbrev pub of_core : Listed Entry → Option (Listed Entry)
of_core es = if are_services es then Some es else None

-- the core whose slots these are
abbrev pub from_slots : Listed Value → Option (Listed Entry)
from_slots (slot ∷ []) = rows_in service_in slot >>? λ ss. of_core (map keyed ss)
from_slots _ = None

-- the slots of a core
abbrev pub to_slots : Listed Entry → Listed Value
to_slots es = listed (map (λ e. row e.1) es) ∷ []
