-- A pasteboard: what it keeps, and its slots.
use Rattle.std.specs.Prelude.{ℕ, pos, ◌^◌, Bool, true, not, is_some, ◌&&◌, ◌==◌, nat_lt, nat_le}
use Rattle.std.specs.Prelude.{Option, Some, None, List as Listed, [], ◌∷◌, length, map}
use Rattle.std.specs.Prelude.{if◌then◌else◌, refl}
use Rattle.std.specs.Coded.{Coded, code_by, coded×, coded_ℕ, coded_list, coded_option}
use Rattle.std.specs.{Map.keys_of, Option.option_map, Str.bytes_eq}
use Rattle.do_base.specs.{names.Names.ObjectName, values.Kinds.{text, object}}
use Rattle.do_base.specs.declared.values.value.Value.{Value, List, out-Value, TheVariants.Nil}
use Rattle.do_base.specs.declared.values.value.Value.{TheVariants.{Num, Text, Obj}, TheOpen.Value-F}
use Rattle.do_grammar.specs.Words.{◌>>?◌}
use Rattle.do_native_acts.specs.{Owners.owner_in, Rows.{rows_in, pair_in, listed}, Types.are_types}
use Rattle.do_table.specs.Entries.{are_distinct}

-- a type, with its data if there is any
abbrev pub Declared : Type 0
Declared = Listed ℕ × Option (Listed ℕ)

-- a type and its data
abbrev pub Content : Type 0
Content = Listed ℕ × Listed ℕ

-- a name, and the pasteboard that is kept under it
abbrev pub NamedBoard : Type 0
NamedBoard = Listed ℕ × ObjectName

-- how often types were declared, who declared them last, these types, and the named pasteboards
pub record Pasteboard : Type 0 where
  pub count : ℕ
  pub owner : Option ObjectName
  pub types : Listed Declared
  pub boards : Listed NamedBoard

-- how the name of an object is coded
abbrev pub object_code : Coded ObjectName
object_code = code_by (ℕ × ℕ) (coded× coded_ℕ coded_ℕ) (λ o. (o.node, o.serial))
    (λ p. record { node = p.0; serial = p.1 }) (λ _. refl)

-- how a text is coded
abbrev pub text_code : Coded (Listed ℕ)
text_code = coded_list coded_ℕ

-- how the parts of a pasteboard are coded, one after the other
abbrev pub pasteboard_code : Coded Pasteboard
pasteboard_code = code_by
    (ℕ × (Option ObjectName × (Listed Declared × Listed NamedBoard)))
    (coded× coded_ℕ (coded× (coded_option object_code)
    (coded× (coded_list (coded× text_code (coded_option text_code)))
    (coded_list (coded× text_code object_code)))))
    (λ b. (b.count, (b.owner, (b.types, b.boards))))
    (λ p. record { count = p.0; owner = p.1.0; types = p.1.1.0; boards = p.1.1.1 }) (λ _. refl)

-- a pasteboard with nothing in it
abbrev pub empty : Pasteboard
empty = record { count = 0; owner = None; types = []; boards = [] }

-- types without data
abbrev pub bare : Listed (Listed ℕ) → Listed Declared
bare types = map (λ t. (t, None)) types

-- types that a pasteboard can have, with data or without
abbrev pub are_declared : Listed Declared → Bool
are_declared ts = are_types (keys_of ts)

-- the named pasteboards: at most 256, no name twice
abbrev pub are_boards : Listed NamedBoard → Bool
are_boards bs = nat_le (length bs) 256 && are_distinct bs

-- where nothing was declared yet there is no owner and no type
abbrev pub begins_empty : Pasteboard → Bool
begins_empty b = if b.count == 0 then not (is_some b.owner) && length b.types == 0 else true

-- what a pasteboard can be
abbrev pub is_board : Pasteboard → Bool
is_board b =
    nat_lt b.count (2 ^ 63) && (begins_empty b && (are_declared b.types && are_boards b.boards))

abbrev count_level : Value-F Value → Option ℕ
count_level Value-F.Nil = Some 0
count_level (Value-F.Num (pos n)) = if nat_lt 0 n then Some n else None
count_level _ = None

-- the change count that a slot holds: nil for 0
abbrev pub count_in : Value → Option ℕ
count_in v = count_level (out-Value v)

-- a type and its data, as a list of both
abbrev pub content_in : Value → Option Content
content_in v = pair_in text text v

-- a name and its pasteboard, as a list of both
abbrev pub board_in : Value → Option NamedBoard
board_in v = pair_in text object v

-- a declared type in front of others
abbrev pub in_front : Declared → Option (Listed Declared) → Option (Listed Declared)
in_front t others = option_map (λ ts. t ∷ ts) others

-- types with their data, where the data stands in the order of the types
abbrev pub merged : Listed (Listed ℕ) → Listed Content → Option (Listed Declared)
merged [] [] = Some []
merged [] (d ∷ ds) = None
merged (t ∷ ts) [] = in_front (t, None) (merged ts [])
merged (t ∷ ts) (d ∷ ds) =
    if bytes_eq t d.0 then in_front (t, Some d.1) (merged ts ds)
    else in_front (t, None) (merged ts (d ∷ ds))

-- the declared types that two slots hold, where a pasteboard can have them
abbrev pub types_read : Value → Value → Option (Listed Declared)
types_read types kept =
    rows_in text types >>? λ kinds. rows_in content_in kept >>? λ data_of. merged kinds data_of
    >>? λ ts. if are_types kinds then Some ts else None

-- the named pasteboards that a slot holds, where a pasteboard can have them
abbrev pub boards_read : Value → Option (Listed NamedBoard)
boards_read v = rows_in board_in v >>? λ bs. if are_boards bs then Some bs else None

-- what these parts make, where a pasteboard can be so
abbrev pub of_parts : Pasteboard → Option Pasteboard
of_parts b = if nat_lt b.count (2 ^ 63) && begins_empty b then Some b else None

-- the pasteboard whose slots these are
abbrev pub from_slots : Listed Value → Option Pasteboard
from_slots (count ∷ owner ∷ types ∷ kept ∷ boards ∷ []) =
    count_in count >>? λ n. owner_in owner >>? λ o. types_read types kept >>? λ ts.
    boards_read boards >>? λ bs.
    of_parts (record { count = n; owner = o; types = ts; boards = bs })
from_slots _ = None

-- the change count as a slot keeps it
abbrev pub count_value : ℕ → Value
count_value n = if nat_lt 0 n then Num (pos n) else Nil

-- the owner as a slot keeps it
abbrev pub owner_value : Option ObjectName → Value
owner_value None = Nil
owner_value (Some o) = Obj o

-- the data of a type in front of others, where there is any
abbrev pub with_content : Listed ℕ → Option (Listed ℕ) → Listed Content → Listed Content
with_content t None others = others
with_content t (Some content) others = (t, content) ∷ others

-- the types that have data, with it
abbrev pub contents : Listed Declared → Listed Content
contents [] = []
contents (t ∷ ts) = with_content t.0 t.1 (contents ts)

-- a type and its data as a value
abbrev pub content_row : Content → Value
content_row d = List (Text d.0 ∷ Text d.1 ∷ [])

-- a name and its pasteboard as a value
abbrev pub board_row : NamedBoard → Value
board_row b = List (Text b.0 ∷ Obj b.1 ∷ [])

-- the slot that keeps the named pasteboards
abbrev pub boards_slot : Listed NamedBoard → Value
boards_slot bs = listed (map board_row bs)

-- the slots of a pasteboard
abbrev pub to_slots : Pasteboard → Listed Value
to_slots b =
    count_value b.count ∷ owner_value b.owner ∷ listed (map Text (keys_of b.types))
    ∷ listed (map content_row (contents b.types)) ∷ boards_slot b.boards ∷ []
