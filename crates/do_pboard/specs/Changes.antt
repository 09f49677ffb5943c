-- What the calls of a pasteboard leave and answer.
use Rattle.std.specs.Prelude.{ℕ, ℤ, pos, ◌+◌, ◌^◌, Bool, true, false, is_some, ◌&&◌, ◌==◌, nat_lt}
use Rattle.std.specs.Prelude.{nat_le, Option, Some, None, List, [], ◌∷◌, ◌++◌, length}
use Rattle.std.specs.{Prelude.{if◌then◌else◌, position}, Option.option_map, Ordering.int_eq}
use Rattle.do_base.specs.names.Names.{ObjectName}
use Rattle.do_table.specs.Entries.{value_of, added, replaced}
use Rattle.do_pboard.specs.{Core.{Pasteboard, Declared, bare}, declared.board.BoardData.BoardData}
use Rattle.do_pboard.specs.declared.board.BoardData.TheVariants.{Here, Ask, Absent}

-- the change count can still grow
abbrev pub can_grow : ℕ → Bool
can_grow count = nat_lt (count + 1) (2 ^ 63)

-- the pasteboard once an owner, or none, declared these types
abbrev pub declared : Pasteboard → List (List ℕ) → Option ObjectName → Pasteboard
declared b types owner =
    record { count = b.count + 1; owner = owner; types = bare types; boards = b.boards }

-- both are none, or the same object
abbrev pub same_owner : Option ObjectName → Option ObjectName → Bool
same_owner None None = true
same_owner (Some o) (Some p) = (o.node == p.node) && (o.serial == p.serial)
same_owner _ _ = false

-- types were declared, and this is their owner
abbrev pub is_owned : Pasteboard → Option ObjectName → Bool
is_owned b owner = nat_lt 0 b.count && same_owner owner b.owner

-- declared types, and behind them each of these that is new
abbrev pub with_types : List Declared → List (List ℕ) → List Declared
with_types ts [] = ts
with_types ts (new ∷ more) = with_types (added ts new None) more

-- how many of these types are not declared
abbrev pub count_new : List Declared → List (List ℕ) → ℕ
count_new ts [] = 0
count_new ts (t ∷ more) =
    if is_some (value_of ts t) then count_new ts more else count_new ts more + 1

-- the types, where they are not too many
abbrev pub few_types : List Declared → Option (List Declared)
few_types ts = if nat_le (length ts) 64 then Some ts else None

-- the pasteboard with these types, and its change count
abbrev pub with_all : Pasteboard → List Declared → Pasteboard × ℤ
with_all b ts = (record b { types = ts }, pos b.count)

-- The pasteboard with more types, and its change count; where the owner is another, it stays and 0
-- is answered. None where there is no room.
abbrev pub extended : Pasteboard → List (List ℕ) → Option ObjectName → Option (Pasteboard × ℤ)
extended b types owner =
    if is_owned b owner then option_map (with_all b) (few_types (with_types b.types types))
    else Some (b, pos 0)

-- the data of a declared type is kept where the change count is this one
abbrev pub takes : Pasteboard → List ℕ → ℤ → Bool
takes b kind count = int_eq count (pos b.count) && is_some (value_of b.types kind)

-- the pasteboard with data of a type, and whether it was taken
abbrev pub supplied : Pasteboard → List ℕ → List ℕ → ℤ → Pasteboard × Bool
supplied b content kind count =
    if takes b kind count
    then (record b { types = replaced b.types kind (Some content) }, true) else (b, false)

-- the owner is to be asked, where there is one
abbrev pub owned : Option ObjectName → BoardData
owned None = Absent
owned (Some owner) = Ask owner

-- the data that is there, or whom to ask
abbrev pub held : Option ObjectName → Option (List ℕ) → BoardData
held owner None = owned owner
held owner (Some content) = Here content

-- the same of a type, if it is declared
abbrev pub found : Option ObjectName → Option (Option (List ℕ)) → BoardData
found owner None = Absent
found owner (Some content) = held owner content

-- the data of a type, or whom to ask for it
abbrev pub data_for : Pasteboard → List ℕ → BoardData
data_for b kind = found b.owner (value_of b.types kind)

-- the place of the first text that is a declared type
abbrev pub available : Pasteboard → List (List ℕ) → Option ℕ
available b texts = position (λ t. is_some (value_of b.types t)) texts

-- the pasteboard and what is kept under the name, where something is or there is room
abbrev pub keep_at : Pasteboard → List ℕ → ObjectName → Option ObjectName
    → Option (Pasteboard × ObjectName)
keep_at b name board (Some had) = Some (b, had)
keep_at b name board None =
    if nat_lt (length b.boards) 256
    then Some (record b { boards = b.boards ++ (name, board) ∷ [] }, board) else None

-- The pasteboard with another one under a name, and what is kept under it then: a name keeps what
-- it has. None where there is no room.
abbrev pub keeps : Pasteboard → List ℕ → ObjectName → Option (Pasteboard × ObjectName)
keeps b name board = keep_at b name board (value_of b.boards name)
