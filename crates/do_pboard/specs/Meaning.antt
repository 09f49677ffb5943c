-- What a pasteboard has after the calls made so far, told by the calls alone.
use Rattle.std.specs.Prelude.{ℕ, pos, ◌+◌, Bool, ◌&&◌, nat_lt, nat_le, List, [], ◌∷◌, ◌++◌, length}
use Rattle.std.specs.{Prelude.{Option, Some, None, if◌then◌else◌}, List.list_any, Ordering.int_eq}
use Rattle.std.specs.Str.{bytes_eq}
use Rattle.do_base.specs.names.Names.{ObjectName}
use Rattle.do_pboard.specs.Changes.{can_grow, same_owner, held}
use Rattle.do_pboard.specs.declared.board.BoardData.{BoardData, TheVariants.Absent}
use Rattle.do_pboard.specs.declared.calls.Call.{Call, TheVariants.{Declare, AddTypes, SetData}}

-- how often types were declared, as far as 63 bits count
abbrev pub told_count : List Call → ℕ
told_count [] = 0
told_count (Declare types owner ∷ earlier) =
    if can_grow (told_count earlier) then told_count earlier + 1 else told_count earlier
told_count (call ∷ earlier) = told_count earlier

-- who declared the types last
abbrev pub told_owner : List Call → Option ObjectName
told_owner [] = None
told_owner (Declare types owner ∷ earlier) =
    if can_grow (told_count earlier) then owner else told_owner earlier
told_owner (call ∷ earlier) = told_owner earlier

-- texts, and behind them each of these that is new
abbrev pub joined : List (List ℕ) → List (List ℕ) → List (List ℕ)
joined known [] = known
joined known (new ∷ more) =
    joined (if list_any (bytes_eq new) known then known else known ++ new ∷ []) more

-- types are added where some were declared, by their owner, and where it is not too many then
abbrev pub are_added : ℕ → Option ObjectName → Option ObjectName → List (List ℕ) → Bool
are_added count present owner all =
    nat_lt 0 count && same_owner owner present && nat_le (length all) 64

-- the types that were declared last, and each that was added since, once
abbrev pub told_types : List Call → List (List ℕ)
told_types [] = []
told_types (Declare types owner ∷ earlier) =
    if can_grow (told_count earlier) then types else told_types earlier
told_types (AddTypes types owner ∷ earlier) =
    let all = joined (told_types earlier) types in
    if are_added (told_count earlier) (told_owner earlier) owner all then all
    else told_types earlier
told_types (call ∷ earlier) = told_types earlier

-- a type was declared
abbrev pub is_told : List Call → List ℕ → Bool
is_told h kind = list_any (bytes_eq kind) (told_types h)

-- The data of a type is what was set last since types were declared, with the change count of that
-- moment and of a declared type.
abbrev pub told_data : List Call → List ℕ → Option (List ℕ)
told_data [] kind = None
told_data (Declare types owner ∷ earlier) kind =
    if can_grow (told_count earlier) then None else told_data earlier kind
told_data (SetData content other count ∷ earlier) kind =
    if bytes_eq kind other && int_eq count (pos (told_count earlier)) && is_told earlier other
    then Some content else told_data earlier kind
told_data (call ∷ earlier) kind = told_data earlier kind

-- the data of a type, or whom to ask for it
abbrev pub told_for : List Call → List ℕ → BoardData
told_for h kind = if is_told h kind then held (told_owner h) (told_data h kind) else Absent
