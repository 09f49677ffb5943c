-- What the calls leave is what they tell.
use Rattle.std.proofs.Common.{◌≡◌, ℕ, Bool, true, false, nat_lt, List, [], ◌∷◌, ◌++◌, length}
use Rattle.std.proofs.Common.{Option, Some, None, refl, sym, ◌∙◌, ap}
use Rattle.std.specs.{Prelude.if◌then◌else◌, Map.keys_of, Option.option_map}
use Rattle.do_base.specs.names.Names.{ObjectName}
use Rattle.do_table.specs.Entries.{value_of}
use Rattle.do_pboard.specs.{Calls.as_object, Changes.{can_grow, data_for, found, held, keep_at}}
use Rattle.do_pboard.specs.Core.{Pasteboard}
use Rattle.do_native_acts.specs.History.{left}
use Rattle.do_pboard.specs.{History.after, Meaning.{is_told, told_count, told_data, told_for}}
use Rattle.do_pboard.specs.Meaning.{told_owner, told_types}
use Rattle.do_pboard.specs.declared.{board.BoardData.TheVariants.Absent, calls.Call.Call}
use Rattle.do_pboard.specs.declared.calls.Call.TheVariants.{Declare, AddTypes, SetData, Available}
use Rattle.do_pboard.specs.declared.calls.Call.TheVariants.{Types, ChangeCount, Keep}
use Rattle.do_pboard.proofs.{Declared.{IsTold, declare_told}, Added.extended_told}
use Rattle.do_pboard.proofs.Supplied.{supplied_told}

-- a pasteboard is kept under a name, or not
kept_told : (h : List Call) (b : Pasteboard) (name : List ℕ) (board : ObjectName)
    (o : Option ObjectName) → IsTold h b
    → IsTold (Keep name board ∷ h) (left b (option_map as_object (keep_at b name board o)))
kept_told h b name board (Some had) is = is
kept_told h b name board None is = by (nat_lt (length b.boards) 256)
  where
    by : (t : Bool) → IsTold h (left b (option_map as_object
        (if t then Some (record b { boards = b.boards ++ (name, board) ∷ [] }, board) else None)))
    by true = record {
      count = is.count;
      owner = is.owner;
      types = is.types;
      held = is.held;
      others = is.others;
    }
    by false = is

-- one call more leaves what is told
call_told : (h : List Call) (call : Call) → IsTold h (after h)
    → IsTold (call ∷ h) (after (call ∷ h))
call_told h (Declare types owner) is =
    declare_told h types owner (can_grow (after h).count) (ap can_grow (sym is.count)) is
call_told h (AddTypes types owner) is = extended_told h (after h) types owner is
call_told h (SetData content kind count) is = supplied_told h (after h) content kind count is
call_told h (Available texts) is = is
call_told h Types is = is
call_told h ChangeCount is = is
call_told h (Keep name board) is =
    kept_told h (after h) name board (value_of (after h).boards name) is

-- what any calls leave is what is told
is_told_after : (h : List Call) → IsTold h (after h)
is_told_after [] = record {
  count = refl;
  owner = refl;
  types = refl;
  held = λ kind. refl;
  others = λ kind absent. refl;
}
is_told_after (call ∷ h) = call_told h call (is_told_after h)

-- the change count is the one that the calls tell
pub count_told : (h : List Call) (b : Pasteboard) → b ≡ after h → b.count ≡ told_count h
count_told h b is = ap (λ (x : Pasteboard). x.count) is ∙ (is_told_after h).count

-- and so is the owner
pub owner_told : (h : List Call) (b : Pasteboard) → b ≡ after h → b.owner ≡ told_owner h
owner_told h b is = ap (λ (x : Pasteboard). x.owner) is ∙ (is_told_after h).owner

-- and so are the types
pub types_told : (h : List Call) (b : Pasteboard) → b ≡ after h → keys_of b.types ≡ told_types h
types_told h b is = ap (λ (x : Pasteboard). keys_of x.types) is ∙ (is_told_after h).types

-- what is found of a type that may be told
found_told : (owner : Option ObjectName) (has : Option (List ℕ)) (told : Bool)
    → found owner (if told then Some has else None) ≡ (if told then held owner has else Absent)
found_told owner has true = refl
found_told owner has false = refl

-- and so is the data of a type
pub data_told : (h : List Call) (b : Pasteboard) (kind : List ℕ) → b ≡ after h
    → data_for b kind ≡ told_for h kind
data_told h b kind is =
    let told = is_told_after h in
    ap (λ (x : Pasteboard). data_for x kind) is
    ∙ ap (found (after h).owner) (told.held kind)
    ∙ found_told (after h).owner (told_data h kind) (is_told h kind)
    ∙ ap (λ o. if is_told h kind then held o (told_data h kind) else Absent) told.owner
