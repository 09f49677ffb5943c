-- The acts of the methods.
use Rattle.std.specs.Prelude.{ℕ, ℤ, pos, Option, Some, None, List as Listed, [], ◌∷◌, codes}
use Rattle.std.specs.{Prelude.if◌then◌else◌, Ordering.int_eq, Str.bytes_eq}
use Rattle.do_base.specs.{names.Names.ObjectName, values.Kinds.{text, number, object}}
use Rattle.do_base.specs.declared.values.value.Value.{Value, TheVariants.{Nil, Num, Text, Obj}}
use Rattle.do_base.specs.declared.events.exception.Exc.TheVariants.{Range}
use Rattle.do_class.specs.Class.{Class}
use Rattle.do_grammar.specs.Words.{◌>>?◌}
use Rattle.do_behave.specs.{Steps.local, declared.{invocation.Invocation.Invocation, act.Act.Act}}
use Rattle.do_behave.specs.declared.{act.Act.TheVariants.{New, Raise}, change.LocalSet.LocalSet}
use Rattle.do_native_acts.specs.{Limited.is_limited, Places.{at_place, by_selector, does_call}}
use Rattle.do_native_acts.specs.{Places.{in_two, returns, sends}, Steps.{caught_to, changes, fits}}
use Rattle.do_native_acts.specs.{Steps.{set, steps}, Owners.owner_in, Types.types_in}
use Rattle.do_table.specs.Entries.{value_of}
use Rattle.do_pboard.specs.Core.{Pasteboard, boards_slot, from_slots, to_slots}
use Rattle.do_pboard.specs.{Calls.{call_in, does}, Changes.{data_for, keeps, same_owner}}
use Rattle.do_pboard.specs.declared.board.BoardData.{BoardData, TheVariants.{Here, Ask, Absent}}
use Rattle.do_pboard.specs.declared.calls.Call.TheVariants.{Declare}

-- the former owner, where it is to be told of the new one
abbrev pub to_tell : Option ObjectName → Option ObjectName → Option ObjectName
to_tell former owner = if same_owner former owner then None else former

-- the places after a declaration: at 1 the former owner is told
abbrev pub declare_next : Invocation → Option ObjectName → Value → Listed Value → Listed Value
    → Act
declare_next inv None answer slots new =
    steps inv 2 (set 2 Nil ∷ set 14 answer ∷ []) inv.handler (changes 0 slots new)
declare_next inv (Some former) answer slots new =
    steps inv 1 (set 2 (Obj former) ∷ set 14 answer ∷ []) (caught_to 2) (changes 0 slots new)

-- declares types of an owner on this pasteboard
abbrev pub declares_on : Invocation → Listed Value → Pasteboard → Option Act
declares_on inv slots b =
    local inv 0 >>? types_in >>? λ types. local inv 1 >>? owner_in >>? λ owner.
    Some (fits (does b (Declare types owner))
    (λ d. declare_next inv (to_tell b.owner owner) d.1 slots (to_slots d.0)))

-- declares types of an owner
abbrev pub declares : Invocation → Listed Value → Option Act
declares inv slots = from_slots slots >>? declares_on inv slots

abbrev pub changed_owner : Listed ℕ
changed_owner = codes "pasteboardChangedOwner:"

-- the places of `declareTypes:owner:`
abbrev pub declare_places : Invocation → Listed Value → Listed (Option Act)
declare_places inv slots =
    declares inv slots ∷ sends inv 2 changed_owner (Obj inv.object ∷ []) 2 ∷ returns inv ∷ []

-- whom to ask, and the change count
abbrev pub look_sets : Value → ℕ → Listed LocalSet → Listed LocalSet
look_sets owner count more = set 1 owner ∷ set 2 (Num (pos count)) ∷ more

-- the owner is asked, or what is there is the answer
abbrev pub look_next : Invocation → ℕ → BoardData → Act
look_next inv count (Ask owner) = steps inv 1 (look_sets (Obj owner) count []) (caught_to 2) []
look_next inv count (Here content) =
    steps inv 3 (look_sets Nil count (set 14 (Text content) ∷ [])) inv.handler []
look_next inv count Absent = steps inv 3 (look_sets Nil count (set 14 Nil ∷ [])) inv.handler []

-- looks for the data of a type on this pasteboard
abbrev pub looks_on : Invocation → Pasteboard → Option Act
looks_on inv b =
    local inv 0 >>? text >>? λ kind. Some (look_next inv b.count (data_for b kind))

-- looks for the data of a type
abbrev pub looks : Invocation → Listed Value → Option Act
looks inv slots = from_slots slots >>? looks_on inv

-- the data, if it is there
abbrev pub if_here : BoardData → Value
if_here (Here content) = Text content
if_here _ = Nil

-- the data, if it is there and the change count is still this one
abbrev pub found_now : Pasteboard → Listed ℕ → ℤ → Value
found_now b kind count = if int_eq count (pos b.count) then if_here (data_for b kind) else Nil

-- looks again on this pasteboard, once the owner was asked
abbrev pub looks_again_on : Invocation → Pasteboard → Option Act
looks_again_on inv b =
    local inv 0 >>? text >>? λ kind. local inv 2 >>? number >>? λ count.
    Some (steps inv 3 (set 14 (found_now b kind count) ∷ []) inv.handler [])

-- looks again, once the owner was asked
abbrev pub looks_again : Invocation → Listed Value → Option Act
looks_again inv slots = from_slots slots >>? looks_again_on inv

abbrev pub provide : Listed ℕ
provide = codes "pasteboard:provideDataForType:"

-- asks the owner for the data of the type
abbrev pub asks : Invocation → Option Act
asks inv = local inv 0 >>? λ kind. sends inv 1 provide (Obj inv.object ∷ kind ∷ []) 2

-- the places of `dataForType:`
abbrev pub data_places : Invocation → Listed Value → Listed (Option Act)
data_places inv slots =
    looks inv slots ∷ asks inv ∷ looks_again inv slots ∷ returns inv ∷ []

-- a pasteboard will be made, where the slot that keeps it will be within the limits
abbrev pub makes_next : Invocation → Pasteboard → Act
makes_next inv b =
    if is_limited (boards_slot b.boards) then steps inv 1 (set 1 Nil ∷ []) inv.handler []
    else Raise Range

-- what is kept under the name is the answer, or a pasteboard will be made
abbrev pub name_next : Invocation → Pasteboard → Listed ℕ → Option ObjectName → Act
name_next inv b name (Some kept) =
    steps inv 3 (set 1 (Obj kept) ∷ set 14 (Obj kept) ∷ []) inv.handler []
name_next inv b name None =
    fits (keeps b name inv.object) (λ d. makes_next inv d.0)

-- looks for the pasteboard of a name
abbrev pub names_look : Invocation → Listed Value → Option Act
names_look inv slots =
    from_slots slots >>? λ b. local inv 0 >>? text >>? λ name.
    Some (name_next inv b name (value_of b.boards name))

-- keeps the new pasteboard under the name on this one
abbrev pub names_keep_on : Invocation → Listed Value → Pasteboard → Option Act
names_keep_on inv slots b =
    local inv 0 >>? text >>? λ name. local inv 1 >>? object >>? λ new.
    Some (fits (keeps b name new)
    (λ d. steps inv 3 (set 14 (Obj d.1) ∷ []) inv.handler (changes 0 slots (to_slots d.0))))

-- keeps the new pasteboard under the name
abbrev pub names_keep : Invocation → Listed Value → Option Act
names_keep inv slots = from_slots slots >>? names_keep_on inv slots

-- the places of `pasteboardNamed:`
abbrev pub name_places : Invocation → Listed Value → Listed (Option Act)
name_places inv slots =
    names_look inv slots ∷ Some (New inv.method.class 1 2) ∷ names_keep inv slots
    ∷ returns inv ∷ []

-- the acts of a method that only answers
abbrev pub answers : Listed ℕ → Invocation → Listed Value → Option Act
answers selector inv slots =
    in_two inv (does_call from_slots to_slots does (call_in selector inv) inv slots)

-- the act of the method with a selector
abbrev pub method_act : Listed ℕ → Invocation → Listed Value → Option Act
method_act selector inv slots =
    if bytes_eq selector (codes "declareTypes:owner:") then at_place inv (declare_places inv slots)
    else if bytes_eq selector (codes "dataForType:") then at_place inv (data_places inv slots)
    else if bytes_eq selector (codes "pasteboardNamed:") then at_place inv (name_places inv slots)
    else answers selector inv slots

-- the act of a method of a pasteboard
abbrev pub pasteboard_act : Listed Class → Invocation → Listed Value → Act
pasteboard_act table inv slots = by_selector table inv (λ selector. method_act selector inv slots)
