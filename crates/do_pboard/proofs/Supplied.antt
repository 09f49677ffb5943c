-- What data of a type leaves is what is told.
use Rattle.std.proofs.Common.{◌≡◌, ℕ, ℤ, pos, Bool, true, false, ◌&&◌, List, ◌∷◌, Option, Some}
use Rattle.std.proofs.Common.{None, refl, sym, ◌∙◌, ap, is_some, true≢false, subst}
use Rattle.std.specs.{Prelude.if◌then◌else◌, List.list_any, Ordering.int_eq, Str.bytes_eq}
use Rattle.std.proofs.lemmas.Map.Made.{is_some-lookup}
use Rattle.do_base.specs.names.Names.{ObjectName}
use Rattle.do_table.specs.{Entries.{value_of, replaced}, laws.TableLaws.same_name}
use Rattle.do_pboard.specs.{Changes.supplied, Core.Pasteboard}
use Rattle.do_pboard.specs.Meaning.{is_told, told_count, told_data, told_owner, told_types}
use Rattle.do_pboard.specs.declared.calls.Call.{Call, TheVariants.SetData}
use Rattle.do_pboard.proofs.{TypesReplaced.{keys_replaced, value_replaced}, Declared.{Has, IsTold}}

-- other data of the same types
same_data : (b : Pasteboard) (count : ℕ) (owner : Option ObjectName) (types : List (List ℕ))
    (data_of other : List ℕ → Option (List ℕ)) → ((kind : List ℕ) → other kind ≡ data_of kind)
    → Has b count owner types data_of → Has b count owner types other
same_data b count owner types data_of other same is = record {
  count = is.count;
  owner = is.owner;
  types = is.types;
  held = λ kind. is.held kind
      ∙ ap (λ d. if list_any (bytes_eq kind) types then Some d else None) (sym (same kind));
  others = λ kind absent. same kind ∙ is.others kind absent;
}

-- the data once a type took some
abbrev with_data : (List ℕ → Option (List ℕ)) → List ℕ → List ℕ → List ℕ → Option (List ℕ)
with_data data_of content other kind = if bytes_eq kind other then Some content else data_of kind

-- what a pasteboard has once a type took data
replaced_has : (b : Pasteboard) (count : ℕ) (owner : Option ObjectName) (types : List (List ℕ))
    (data_of : List ℕ → Option (List ℕ)) (content other : List ℕ)
    → is_some (value_of b.types other) ≡ true → list_any (bytes_eq other) types ≡ true
    → Has b count owner types data_of
    → Has (record b { types = replaced b.types other (Some content) }) count owner types
    (with_data data_of content other)
replaced_has b count owner types data_of content other there told is = record {
  count = is.count;
  owner = is.owner;
  types = keys_replaced other (Some content) b.types ∙ is.types;
  held = λ kind. value_replaced other (Some content) b.types kind there
      ∙ held_by kind (bytes_eq kind other) refl;
  others = λ kind absent. none_by kind (bytes_eq kind other) refl absent;
}
  where
    told_too : (kind : List ℕ) → bytes_eq kind other ≡ true
        → list_any (bytes_eq kind) types ≡ true
    told_too kind same = ap (λ n. list_any (bytes_eq n) types) (same_name kind other same) ∙ told

    held_by : (kind : List ℕ) (same : Bool) → bytes_eq kind other ≡ same
        → (if same then Some (Some content) else value_of b.types kind)
        ≡ (if list_any (bytes_eq kind) types
        then Some (if same then Some content else data_of kind) else None)
    held_by kind true same =
        sym (ap (λ t. if t then Some (Some content) else None) (told_too kind same))
    held_by kind false differs = is.held kind

    none_by : (kind : List ℕ) (same : Bool) → bytes_eq kind other ≡ same
        → list_any (bytes_eq kind) types ≡ false
        → (if same then Some content else data_of kind) ≡ None
    none_by kind true same absent = absurd (true≢false (sym (told_too kind same) ∙ absent))
    none_by kind false differs absent = is.others kind absent

-- data that may have been taken
abbrev set_left : Pasteboard → List ℕ → List ℕ → Bool → Bool → Pasteboard
set_left b content other now there =
    (if◌then◌else◌ {A = Pasteboard × Bool} (now && there)
    (record b { types = replaced b.types other (Some content) }, true) (b, false)).0

-- the data that may have been set
abbrev data_with : List Call → List ℕ → List ℕ → Bool → Bool → List ℕ → Option (List ℕ)
data_with h content other now there kind =
    if bytes_eq kind other && now && there then Some content else told_data h kind

-- a type may take data
set_has : (h : List Call) (b : Pasteboard) (content other : List ℕ) (now there : Bool)
    → is_some (value_of b.types other) ≡ there → is_told h other ≡ there → IsTold h b
    → Has (set_left b content other now there) (told_count h) (told_owner h) (told_types h)
    (data_with h content other now there)
set_has h b content other true true there told is =
    same_data (record b { types = replaced b.types other (Some content) }) (told_count h)
    (told_owner h) (told_types h) (with_data (told_data h) content other)
    (data_with h content other true true)
    (λ kind. ap (λ t. if t then Some content else told_data h kind)
    (and_both (bytes_eq kind other)))
    (replaced_has b (told_count h) (told_owner h) (told_types h) (told_data h) content other there
    told is)
  where
    and_both : (t : Bool) → (t && true && true) ≡ t
    and_both true = refl
    and_both false = refl
set_has h b content other true false there told is =
    same_data b (told_count h) (told_owner h) (told_types h) (told_data h)
    (data_with h content other true false)
    (λ kind. ap (λ t. if t then Some content else told_data h kind)
    (and_no (bytes_eq kind other))) is
  where
    and_no : (t : Bool) → (t && true && false) ≡ false
    and_no true = refl
    and_no false = refl
set_has h b content other false there there_is told is =
    same_data b (told_count h) (told_owner h) (told_types h) (told_data h)
    (data_with h content other false there)
    (λ kind. ap (λ t. if t then Some content else told_data h kind)
    (no_and (bytes_eq kind other))) is
  where
    no_and : (t : Bool) → (t && false && there) ≡ false
    no_and true = refl
    no_and false = refl

-- data is set, or not
pub supplied_told : (h : List Call) (b : Pasteboard) (content other : List ℕ) (count : ℤ)
    → IsTold h b → IsTold (SetData content other count ∷ h) (supplied b content other count).0
supplied_told h b content other count is =
    let there : is_some (value_of b.types other) ≡ is_told h other =
    is_some-lookup (bytes_eq other) b.types ∙ ap (list_any (bytes_eq other)) is.types in
    subst (λ (c : Pasteboard). Has c (told_count h) (told_owner h) (told_types h)
    (data_with h content other (int_eq count (pos (told_count h))) (is_told h other)))
    (ap (λ n. set_left b content other (int_eq count (pos n)) (is_told h other)) (sym is.count)
    ∙ ap (λ t. set_left b content other (int_eq count (pos b.count)) t) (sym there))
    (set_has h b content other (int_eq count (pos (told_count h))) (is_told h other) there refl is)
