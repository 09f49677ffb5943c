-- What a declaration leaves is what is told.
use Rattle.std.proofs.Common.{◌≡◌, ℕ, ◌+◌, Bool, true, false, List, ◌∷◌, Option, Some, None, sym}
use Rattle.std.proofs.Common.{◌∙◌, ap}
use Rattle.std.specs.{Prelude.if◌then◌else◌, List.list_any, Map.keys_of, Str.bytes_eq}
use Rattle.do_base.specs.names.Names.{ObjectName}
use Rattle.do_table.specs.Entries.{value_of}
use Rattle.do_pboard.specs.{Calls.with_count, Changes.{can_grow, declared}, Core.Pasteboard}
use Rattle.do_native_acts.specs.History.{left}
use Rattle.do_pboard.specs.{History.after, Meaning.{told_count, told_data, told_owner, told_types}}
use Rattle.do_pboard.specs.declared.calls.Call.{Call, TheVariants.Declare}
use Rattle.do_pboard.proofs.TypesAdded.{keys_bare, value_bare}

-- What a pasteboard has is this: the change count, the owner, the types, and the data of each type
-- that is there.
pub record Has (b : Pasteboard) (n : ℕ) (o : Option ObjectName) (ts : List (List ℕ))
    (data_of : List ℕ → Option (List ℕ)) : Type 0 where
  pub count : b.count ≡ n
  pub owner : b.owner ≡ o
  pub types : keys_of b.types ≡ ts
  pub held : (kind : List ℕ) → value_of b.types kind
      ≡ (if list_any (bytes_eq kind) ts then Some (data_of kind) else None)
  pub others : (kind : List ℕ) → list_any (bytes_eq kind) ts ≡ false → data_of kind ≡ None

-- a pasteboard has what the calls tell
abbrev pub IsTold : List Call → Pasteboard → Type 0
IsTold h b = Has b (told_count h) (told_owner h) (told_types h) (told_data h)

-- types are declared anew
pub declare_told : (h : List Call) (types : List (List ℕ)) (owner : Option ObjectName) (room : Bool)
    → can_grow (told_count h) ≡ room → IsTold h (after h)
    → IsTold (Declare types owner ∷ h)
    (left (after h) (if room then Some (with_count (declared (after h) types owner)) else None))
declare_told h types owner true room is = record {
  count =
      ap (λ n. n + 1) is.count
      ∙ sym (ap (λ b. if b then told_count h + 1 else told_count h) room);
  owner = sym (ap (λ b. if b then owner else told_owner h) room);
  types = keys_bare types ∙ sym (told_is room);
  held = λ kind. value_bare types kind
      ∙ sym (ap (λ ks. if list_any (bytes_eq kind) ks then Some None else None) (told_is room))
      ∙ sym (ap (λ d. if list_any (bytes_eq kind) (told_types (Declare types owner ∷ h))
      then Some d else None) (none_is kind room));
  others = λ kind absent. none_is kind room;
}
  where
    told_is : can_grow (told_count h) ≡ true → told_types (Declare types owner ∷ h) ≡ types
    told_is room = ap (λ b. if b then types else told_types h) room

    none_is : (kind : List ℕ) → can_grow (told_count h) ≡ true
        → told_data (Declare types owner ∷ h) kind ≡ None
    none_is kind room = ap (λ b. if b then None else told_data h kind) room
declare_told h types owner false room is = record {
  count = is.count ∙ sym (ap (λ b. if b then told_count h + 1 else told_count h) room);
  owner = is.owner ∙ sym (ap (λ b. if b then owner else told_owner h) room);
  types = is.types ∙ sym (told_is room);
  held = λ kind. is.held kind
      ∙ sym (ap (λ ks. if list_any (bytes_eq kind) ks then Some (told_data h kind) else None)
      (told_is room))
      ∙ sym (ap (λ d. if list_any (bytes_eq kind) (told_types (Declare types owner ∷ h))
      then Some d else None) (data_is kind room));
  others = λ kind absent. data_is kind room
      ∙ is.others kind (sym (ap (list_any (bytes_eq kind)) (told_is room)) ∙ absent);
}
  where
    told_is : can_grow (told_count h) ≡ false → told_types (Declare types owner ∷ h) ≡ told_types h
    told_is room = ap (λ b. if b then types else told_types h) room

    data_is : (kind : List ℕ) → can_grow (told_count h) ≡ false
        → told_data (Declare types owner ∷ h) kind ≡ told_data h kind
    data_is kind room = ap (λ b. if b then None else told_data h kind) room
