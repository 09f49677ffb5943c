-- The objects of a pasteboard, of its calls and of what they answer may be named.
use Rattle.std.proofs.Common.{◌≡◌, ℕ, ℤ, pos, Bool, true, false, List as Listed, [], ◌∷◌, Option}
use Rattle.std.proofs.Common.{Some, None, map, sym, subst, length}
use Rattle.std.specs.{Prelude.{◌++◌, codes, nat_le, nat_lt, slice_get}, Ordering.int_eq, List.All}
use Rattle.std.specs.{Map.keys_of, Option.IfSome, Str.bytes_eq}
use Rattle.std.proofs.lemmas.{List.Elements.All-push, Map.Entries.All-lookup}
use Rattle.do_base.specs.{names.Names.ObjectName, values.Kinds.{text, number}}
use Rattle.do_base.specs.declared.values.value.Value.{Value, TheVariants.{Nil, Num, Text, Obj}}
use Rattle.do_grammar.specs.Words.{◌>>?◌}
use Rattle.do_behave.specs.{Numbers.truth, Steps.local, declared.invocation.Invocation.Invocation}
use Rattle.do_native_acts.specs.{Rows.list_in, laws.FoundLaws.{if_chosen, if_found, if_mapped}}
use Rattle.do_native_acts.specs.laws.{FoundLaws.{if_room, of_chosen}, KindLaws.found_of}
use Rattle.do_native_acts.specs.laws.NamedValues.{EachNamed, Named, NamedObject, core_read}
use Rattle.do_native_acts.specs.laws.NamedValues.{each_named, list_named, list_of_parts}
use Rattle.do_native_acts.specs.laws.NamedValues.{local_found, nil_named, number_named}
use Rattle.do_native_acts.specs.laws.NamedValues.{parts_of_list, rows_named, slot_from, slot_to}
use Rattle.do_native_acts.specs.{laws.NamedValues.text_named, Types.types_in, Owners.owner_in}
use Rattle.do_table.specs.Entries.{value_of, replaced}
use Rattle.do_pboard.specs.{Acts.{found_now, if_here, to_tell}, Calls.{adds_types, as_number}}
use Rattle.do_pboard.specs.Calls.{as_object, asks_available, call_in, does, sets_data, text_or_nil}
use Rattle.do_pboard.specs.{Calls.with_count, Changes.{available, can_grow, data_for, declared}}
use Rattle.do_pboard.specs.Changes.{extended, few_types, found, held, is_owned, keep_at, keeps}
use Rattle.do_pboard.specs.Changes.{same_owner, supplied, takes, with_all, with_types}
use Rattle.do_pboard.specs.Core.{Pasteboard, Content, Declared, NamedBoard, board_row, content_row}
use Rattle.do_pboard.specs.Core.{contents, count_value, from_slots, owner_value, to_slots}
use Rattle.do_pboard.specs.declared.board.BoardData.{BoardData, TheVariants.{Here, Ask, Absent}}
use Rattle.do_pboard.specs.declared.calls.Call.{Call, TheVariants.{Declare, AddTypes, SetData}}
use Rattle.do_pboard.specs.declared.calls.Call.TheVariants.{Available, Types, ChangeCount, Keep}
use Rattle.do_pboard.specs.laws.{PartsExact.owner_back, SlotsExact.read_back}

module _ (inv : Invocation) (slots : Listed Value) where
  -- an object that may be named, here
  abbrev IsShown : ObjectName → Type 0
  IsShown o = NamedObject inv slots o

  -- an owner that may be named
  abbrev pub NamedOwner : Option ObjectName → Type 0
  NamedOwner o = IfSome o IsShown

  -- a pasteboard that is kept under a name may be named
  abbrev IsNamedBoard : NamedBoard → Type 0
  IsNamedBoard e = IsShown e.1

  -- the objects of a pasteboard may be named
  pub record NamedCore (b : Pasteboard) : Type 0 where
    pub owner : NamedOwner b.owner
    pub boards : All IsNamedBoard b.boards

  -- an owner that a slot keeps may be named where the slot may
  owner_from : (o : Option ObjectName) → Named inv slots (owner_value o) → NamedOwner o
  owner_from None named = tt
  owner_from (Some o) named = named

  -- and the other way round
  owner_to : (o : Option ObjectName) → NamedOwner o → Named inv slots (owner_value o)
  owner_to None named = nil_named inv slots
  owner_to (Some o) named = named

  -- the pasteboard of a row may be named where the row may
  board_from : (e : NamedBoard) → Named inv slots (board_row e) → IsNamedBoard e
  board_from e named = (parts_of_list inv slots (Text e.0 ∷ Obj e.1 ∷ []) named).1.0

  -- and the other way round
  board_to : (e : NamedBoard) → IsNamedBoard e → Named inv slots (board_row e)
  board_to e named =
      list_of_parts inv slots (Text e.0 ∷ Obj e.1 ∷ []) (text_named inv slots e.0, (named, tt))

  -- the objects of a pasteboard may be named whose slots these are
  pub core_from : (b : Pasteboard) → from_slots slots ≡ Some b → NamedCore b
  core_from =
      core_read inv slots from_slots to_slots NamedCore (read_back slots) (λ b each. record {
        owner = owner_from b.owner each.1.0;
        boards = slot_from inv slots board_row IsNamedBoard board_from b.boards each.1.1.1.1.0;
      })

  -- a type with its data names no object
  content_named : (d : Content) → Named inv slots (content_row d)
  content_named d =
      list_of_parts inv slots (Text d.0 ∷ Text d.1 ∷ [])
      (text_named inv slots d.0, (text_named inv slots d.1, tt))

  -- nor does a change count
  count_named : (n : ℕ) → Named inv slots (count_value n)
  count_named n =
      of_chosen (Named inv slots) (nat_lt 0 n) (Num (pos n)) Nil (number_named inv slots (pos n))
      (nil_named inv slots)

  -- the slots of a pasteboard whose objects may be named may be
  pub core_to : (b : Pasteboard) → NamedCore b → EachNamed inv slots (to_slots b)
  core_to b named = (
    count_named b.count,
    (
      owner_to b.owner named.owner,
      (
        rows_named inv slots (λ (s : Listed ℕ). Text s) (text_named inv slots) (keys_of b.types),
        (
          rows_named inv slots content_row content_named (contents b.types),
          (slot_to inv slots board_row IsNamedBoard board_to b.boards named.boards, tt),
        ),
      ),
    ),
  )

  -- the objects of a call may be named
  abbrev pub NamedCall : Call → Type 0
  NamedCall (Declare types owner) = NamedOwner owner
  NamedCall (AddTypes types owner) = NamedOwner owner
  NamedCall (Keep name board) = IsShown board
  NamedCall _ = Unit {0}

  -- what a call leaves and answers may be named
  abbrev pub NamedDone : Pasteboard × Value → Type 0
  NamedDone done = Named inv slots done.1 × NamedCore done.0

  -- what is left and answered as a number may be named
  abbrev NamedLeft : Pasteboard × ℤ → Type 0
  NamedLeft done = NamedDone (as_number done)

  -- what is added to a pasteboard are types
  extended_named : (b : Pasteboard) (types : Listed (Listed ℕ)) (owner : Option ObjectName)
      → NamedCore b → IfSome (extended b types owner) NamedLeft
  extended_named b types owner named =
      let all = with_types b.types types in
      if_chosen NamedLeft (is_owned b owner) _ (Some (b, pos 0))
      (if_mapped NamedLeft (with_all b) (few_types all)
      (if_room (λ (ts : Listed Declared). NamedLeft (with_all b ts)) (nat_le (length all) 64) all (
        number_named inv slots (pos b.count),
        record { owner = named.owner; boards = named.boards },
      ))) (number_named inv slots (pos 0), named)

  -- so is what is set
  supplied_named : (b : Pasteboard) (content kind : Listed ℕ) (count : ℤ) → NamedCore b
      → NamedCore (supplied b content kind count).0
  supplied_named b content kind count named =
      of_chosen (λ (d : Pasteboard × Bool). NamedCore d.0) (takes b kind count)
      (record b { types = replaced b.types kind (Some content) }, true) (b, false)
      (record { owner = named.owner; boards = named.boards }) named

  -- what is kept under a name may be named, and the pasteboard that keeps it
  abbrev pub NamedKept : Pasteboard × ObjectName → Type 0
  NamedKept d = IsShown d.1 × NamedCore d.0

  -- so it is of a name that has a pasteboard or none
  kept_at : (b : Pasteboard) (name : Listed ℕ) (board : ObjectName) (o : Option ObjectName)
      → NamedCore b → IsShown board → IfSome o IsShown → IfSome (keep_at b name board o) NamedKept
  kept_at b name board (Some had) named new old = (old, named)
  kept_at b name board None named new old =
      if_room NamedKept (nat_lt (length b.boards) 256)
      (record b { boards = b.boards ++ (name, board) ∷ [] }, board) (
        new,
        record {
          owner = named.owner;
          boards = All-push IsNamedBoard b.boards (name, board) named.boards new;
        },
      )

  -- what is found among named pasteboards may be named
  pub board_found : (b : Pasteboard) (name : Listed ℕ) → NamedCore b
      → IfSome (value_of b.boards name) IsShown
  board_found b name named = All-lookup IsShown (bytes_eq name) b.boards named.boards

  -- and so may what is kept
  pub kept_named : (b : Pasteboard) (name : Listed ℕ) (board : ObjectName) → NamedCore b
      → IsShown board → IfSome (keeps b name board) NamedKept
  kept_named b name board named new =
      kept_at b name board (value_of b.boards name) named new (board_found b name named)

  -- a text or nil names no object
  text_or_nil_named : (o : Option (Listed ℕ)) → Named inv slots (text_or_nil o)
  text_or_nil_named None = nil_named inv slots
  text_or_nil_named (Some s) = text_named inv slots s

  -- what a call leaves and answers may be named, where what it was given may
  pub done_named : (b : Pasteboard) (call : Call) → NamedCore b → NamedCall call
      → IfSome (does b call) NamedDone
  done_named b (Declare types owner) named given =
      if_room NamedDone (can_grow b.count) (with_count (declared b types owner)) (
        number_named inv slots (pos (declared b types owner).count),
        record { owner = given; boards = named.boards },
      )
  done_named b (AddTypes types owner) named given =
      if_mapped NamedDone as_number (extended b types owner) (extended_named b types owner named)
  done_named b (SetData content kind count) named given = (
    number_named inv slots (truth (supplied b content kind count).1),
    supplied_named b content kind count named,
  )
  done_named b (Available texts) named given =
      (text_or_nil_named (available b texts >>? λ k. slice_get texts k), named)
  done_named b Types named given = (
    list_named inv slots (map (λ (s : Listed ℕ). Text s) (keys_of b.types))
        (each_named inv slots (λ (s : Listed ℕ). Text s) (text_named inv slots) (keys_of b.types)),
    named,
  )
  done_named b ChangeCount named given = (number_named inv slots (pos b.count), named)
  done_named b (Keep name board) named given =
      if_mapped NamedDone as_object (keeps b name board) (kept_named b name board named given)

  -- the owner that a local names may be named
  pub local_owner : (k : ℕ) (o : Option ObjectName) → (local inv k >>? owner_in) ≡ Some o
      → NamedOwner o
  local_owner k o is =
      let v = found_of (local inv k) owner_in o is in
      owner_from o
      (subst (Named inv slots) (sym (owner_back v.0 o v.2)) (local_found inv slots k v.0 v.1))

  -- the owner of the call that adds types may be named
  adds_named : IfSome (adds_types inv) NamedCall
  adds_named =
      if_found NamedCall (local inv 0 >>? types_in) _ (λ types _.
      if_found NamedCall (local inv 1 >>? owner_in) (λ owner. Some (AddTypes types owner))
      (local_owner 1))

  -- the call that sets data names none
  sets_named : IfSome (sets_data inv) NamedCall
  sets_named =
      if_found NamedCall (local inv 0 >>? text) _ (λ content _.
      if_found NamedCall (local inv 1 >>? text) _ (λ kind _.
      if_found NamedCall (local inv 2 >>? number) (λ count. Some (SetData content kind count))
      (λ count _. tt)))

  -- nor does the call that asks for a type
  available_named : IfSome (asks_available inv) NamedCall
  available_named =
      if_found NamedCall (local inv 0 >>? list_in text) (λ texts. Some (Available texts))
      (λ texts _. tt)

  -- the objects of the call of a selector may be named
  pub call_named : (selector : Listed ℕ) → IfSome (call_in selector inv) NamedCall
  call_named selector =
      if_chosen NamedCall (bytes_eq selector (codes "addTypes:owner:")) (adds_types inv) _
      adds_named
      (if_chosen NamedCall (bytes_eq selector (codes "setData:forType:count:")) (sets_data inv) _
      sets_named
      (if_chosen NamedCall (bytes_eq selector (codes "availableTypeFromArray:"))
      (asks_available inv) _ available_named
      (if_chosen NamedCall (bytes_eq selector (codes "types")) (Some Types) _ tt
      (if_room NamedCall (bytes_eq selector (codes "changeCount")) ChangeCount tt))))

  -- whom to ask may be named, and data names no object
  abbrev pub NamedData : BoardData → Type 0
  NamedData (Here content) = Unit {0}
  NamedData (Ask owner) = IsShown owner
  NamedData Absent = Unit {0}

  -- who is asked for what is held of a type is the owner
  held_named : (owner : Option ObjectName) (content : Option (Listed ℕ)) → NamedOwner owner
      → NamedData (held owner content)
  held_named owner (Some content) named = tt
  held_named None None named = tt
  held_named (Some o) None named = named

  -- and so it is of the data that is found
  found_named : (owner : Option ObjectName) (o : Option (Option (Listed ℕ))) → NamedOwner owner
      → NamedData (found owner o)
  found_named owner None named = tt
  found_named owner (Some content) named = held_named owner content named

  -- and of the data of a type
  pub data_named : (b : Pasteboard) (kind : Listed ℕ) → NamedCore b → NamedData (data_for b kind)
  data_named b kind named = found_named b.owner (value_of b.types kind) named.owner

  -- who is told was the owner
  pub told_named : (former owner : Option ObjectName) → NamedOwner former
      → NamedOwner (to_tell former owner)
  told_named former owner named =
      of_chosen NamedOwner (same_owner former owner) None former tt named

  -- the data that is here names no object
  here_named : (found : BoardData) → Named inv slots (if_here found)
  here_named (Here content) = text_named inv slots content
  here_named (Ask owner) = nil_named inv slots
  here_named Absent = nil_named inv slots

  -- nor does what is found now
  pub now_named : (b : Pasteboard) (kind : Listed ℕ) (count : ℤ)
      → Named inv slots (found_now b kind count)
  now_named b kind count =
      of_chosen (Named inv slots) (int_eq count (pos b.count)) (if_here (data_for b kind)) Nil
      (here_named (data_for b kind)) (nil_named inv slots)
