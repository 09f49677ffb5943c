-- What may be wrong at a place of a document, and which of several faults is the first.
use Rattle.std.specs.Prelude.{ℕ, nat_le, Bool, true, false, not, ◌&&◌, if◌then◌else◌, is_some, List}
use Rattle.std.specs.Prelude.{[], ◌∷◌, ◌++◌, length, find, Option, Some, None, option_and_then}
use Rattle.std.specs.{List.list_any, Option.{option_map, option_map_or, option_or}, Str.bytes_eq}
use Rattle.toml.specs.Data.{Data, Members, get_member, as_array, as_str, as_table}
use Rattle.do_document.specs.declared.document.ItemKind.{ItemKind, TheVariants.{Text, Table}}
use Rattle.do_document.specs.declared.{place.Place.Place, fault.WorldFault.WorldFault}
use Rattle.do_document.specs.declared.fault.WorldFault.TheVariants.{Missing, Wrong}
use Rattle.do_document.specs.{Document.{keys, members, members_at}, Paths.{numbered, path}}

-- the first of several faults, some of which may not be there
abbrev pub first_of : List (Option WorldFault) → Option WorldFault
first_of [] = None
first_of (fault ∷ more) = option_or fault (first_of more)

-- the first fault of a list's members behind some of them, each checked beside those before it
abbrev pub first_behind : {A : Type 0} → (List A → A → Option WorldFault) → List A → List A
    → Option WorldFault
first_behind check before [] = None
first_behind check before (x ∷ more) =
    option_or (check before x) (first_behind check (before ++ x ∷ []) more)

-- the first fault of a list's members, each checked beside those before it
abbrev pub first_among : {A : Type 0} → (List A → A → Option WorldFault) → List A
    → Option WorldFault
first_among check xs = first_behind check [] xs

-- a path is wrong, unless a test passes
abbrev pub wrong_unless : Bool → List ℕ → Option WorldFault
wrong_unless true at = None
wrong_unless false at = Some (Wrong at)

-- the first key of a table, by rising bytes, is wrong that is none of these
unfoldable pub unknown : Place → List (List ℕ) → Members → Option WorldFault
unknown place known t =
    option_map (λ key. Wrong (path place key))
    (find (λ key. not (list_any (bytes_eq key) known)) (keys t))

-- a key that a table must have is missing
unfoldable pub missing : Place → List ℕ → Members → Option WorldFault
missing place key t =
    if is_some (get_member key t) then None else Some (Missing (path place key))

-- what stands at a key is wrong where it fails a test
unfoldable pub misfit : Place → List ℕ → (Data → Bool) → Members → Option WorldFault
misfit place key good t =
    option_and_then (λ d. wrong_unless (good d) (path place key)) (get_member key t)

-- what must stand at a key is missing, or is wrong where it fails a test
unfoldable pub required : Place → List ℕ → (Data → Bool) → Members → Option WorldFault
required place key good t = option_or (missing place key t) (misfit place key good t)

-- a text
abbrev pub is_text : Data → Bool
is_text d = is_some (as_str d)

-- a table
abbrev pub is_table : Data → Bool
is_table d = is_some (as_table d)

-- a value of a kind
abbrev pub is_of_kind : ItemKind → Data → Bool
is_of_kind Text d = is_text d
is_of_kind Table d = is_table d

-- a text that passes a test
abbrev pub is_text_with : (List ℕ → Bool) → Data → Bool
is_text_with test d = option_map_or test (as_str d) false

-- a list with a number of members from a least one to a greatest
abbrev pub is_list : ℕ → ℕ → Data → Bool
is_list least most d =
    option_map_or
    (λ items. nat_le least (length (members items)) && nat_le (length (members items)) most)
    (as_array d) false

-- a member of the list at a path, behind others, is wrong unless it is of a kind
abbrev pub member_fault : List ℕ → ItemKind → List Data → Data → Option WorldFault
member_fault at kind before d = wrong_unless (is_of_kind kind d) (numbered at (length before))

-- what stands at a key is no list of such a length, or a member of it is of another kind
unfoldable pub list_fault : Place → List ℕ → ℕ → ℕ → ItemKind → Members → Option WorldFault
list_fault place key least most kind t = first_of
    (misfit place key (is_list least most) t
    ∷ first_among (member_fault (path place key) kind) (members_at key t)
    ∷ [])
