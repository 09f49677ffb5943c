-- The calls of a pasteboard, and what each does.
use Rattle.std.specs.Prelude.{ℕ, ℤ, pos, Option, Some, None, List as Listed, map, if◌then◌else◌}
use Rattle.std.specs.{Prelude.{codes, IsTrue, slice_get}, Map.keys_of, Option.option_map}
use Rattle.std.specs.Str.{bytes_eq}
use Rattle.do_base.specs.{names.Names.ObjectName, values.Kinds.{text, number}}
use Rattle.do_base.specs.declared.values.value.Value.{Value, List}
use Rattle.do_base.specs.declared.values.value.Value.TheVariants.{Nil, Num, Text, Obj}
use Rattle.do_grammar.specs.Words.{◌>>?◌}
use Rattle.do_behave.specs.{Numbers.truth, Steps.local, declared.invocation.Invocation.Invocation}
use Rattle.do_native_acts.specs.{Owners.owner_in, Rows.list_in, Types.{are_types, types_in}}
use Rattle.do_pboard.specs.Core.{Pasteboard}
use Rattle.do_pboard.specs.Changes.{can_grow, declared, extended, supplied, available, keeps}
use Rattle.do_pboard.specs.declared.calls.Call.{Call, TheVariants.{Declare, AddTypes, SetData}}
use Rattle.do_pboard.specs.declared.calls.Call.TheVariants.{Available, Types, ChangeCount, Keep}

-- types that are declared are at most 64 texts of 1 to 255 bytes, none of them twice
abbrev pub IsCall : Call → Type 0
IsCall (Declare types owner) = IsTrue (are_types types)
IsCall (AddTypes types owner) = IsTrue (are_types types)
IsCall _ = Unit {0}

-- the number that a call cannot pass: the greatest change count, and how many types and named
-- pasteboards there may be
abbrev pub limit_of : Call → ℕ
limit_of (Declare types owner) = 9223372036854775807
limit_of (AddTypes types owner) = 64
limit_of (Keep name board) = 256
limit_of _ = 0

-- what was declared, with the change count as the answer
abbrev pub with_count : Pasteboard → Pasteboard × Value
with_count b = (b, Num (pos b.count))

-- what was done, with its answer as a number
abbrev pub as_number : Pasteboard × ℤ → Pasteboard × Value
as_number done = (done.0, Num done.1)

-- what was kept, with it as the answer
abbrev pub as_object : Pasteboard × ObjectName → Pasteboard × Value
as_object done = (done.0, Obj done.1)

-- a text, or nil for none
abbrev pub text_or_nil : Option (Listed ℕ) → Value
text_or_nil None = Nil
text_or_nil (Some s) = Text s

-- what a call leaves and answers; none where there is no room
abbrev pub does : Pasteboard → Call → Option (Pasteboard × Value)
does b (Declare types owner) =
    if can_grow b.count then Some (with_count (declared b types owner)) else None
does b (AddTypes types owner) = option_map as_number (extended b types owner)
does b (SetData content kind count) =
    let done = supplied b content kind count in
    Some (done.0, Num (truth done.1))
does b (Available texts) = Some (b, text_or_nil (available b texts >>? λ k. slice_get texts k))
does b Types = Some (b, List (map Text (keys_of b.types)))
does b ChangeCount = Some (with_count b)
does b (Keep name board) = option_map as_object (keeps b name board)

-- the call `addTypes:owner:`
abbrev pub adds_types : Invocation → Option Call
adds_types inv =
    local inv 0 >>? types_in >>? λ types. local inv 1 >>? owner_in >>? λ owner.
    Some (AddTypes types owner)

-- the call `setData:forType:count:`
abbrev pub sets_data : Invocation → Option Call
sets_data inv =
    local inv 0 >>? text >>? λ content. local inv 1 >>? text >>? λ kind.
    local inv 2 >>? number >>? λ count. Some (SetData content kind count)

-- the call `availableTypeFromArray:`
abbrev pub asks_available : Invocation → Option Call
asks_available inv = local inv 0 >>? list_in text >>? λ texts. Some (Available texts)

-- the call that a selector and the arguments make, of those that only answer
abbrev pub call_in : Listed ℕ → Invocation → Option Call
call_in selector inv =
    if bytes_eq selector (codes "addTypes:owner:") then adds_types inv else
    if bytes_eq selector (codes "setData:forType:count:") then sets_data inv else
    if bytes_eq selector (codes "availableTypeFromArray:") then asks_available inv else
    if bytes_eq selector (codes "types") then Some Types else
    if bytes_eq selector (codes "changeCount") then Some ChangeCount else None
