-- How lists of a document are read, member by member.
use Rattle.std.proofs.Common.{◌≡◌, ℕ, suc, ◌+◌, ◌<◌, ◌≤◌, List, [], ◌∷◌, ◌++◌, length, map, take}
use Rattle.std.proofs.Common.{drop, get_or, Option, Some, None, false, refl, sym, ◌∙◌, ap, arith}
use Rattle.std.specs.{List.{cons_option, filter_map}, Option.{option_or, option_to_list}}
use Rattle.std.proofs.lemmas.List.{take_all}
use Rattle.toml.specs.Data.{Data, Members, as_array, as_str, as_table, get_member}
use Rattle.toml.specs.{View.{items_view, view}, declared.value.Value.Value}
use Rattle.do_class_kinds.proofs.Growing.{maybe_more}
use Rattle.do_document.specs.Checks.{first_among, first_behind, is_list, is_of_kind, list_fault}
use Rattle.do_document.specs.Checks.{member_fault, misfit, wrong_unless}
use Rattle.do_document.specs.{Document.{members_at, tables_at, texts_at}, Paths.{numbered, path}}
use Rattle.do_document.specs.declared.{document.ItemKind.ItemKind, place.Place.Place}
use Rattle.do_document.specs.declared.fault.WorldFault.{WorldFault, TheVariants.Wrong}
use Rattle.do_document.proofs.{Finding.turn_bad, Growing.so_far, InOrder.{Tells, in_first}}
use Rattle.do_document.proofs.Seen.{members_seen}

-- the members of a list that stands at a key
pub members_there : (key : List ℕ) (t : Members) (d : Data) (vs : List Value)
    → get_member key t ≡ Some d → as_array d ≡ Some (items_view vs)
    → map view vs ≡ members_at key t
unfolding members_at
members_there key t d vs there list = let seen = members_seen vs in rw (there, list) (sym seen)

-- no list stands at a key
pub members_no_list : (key : List ℕ) (t : Members) (d : Data)
    → get_member key t ≡ Some d → as_array d ≡ None → [] ≡ members_at key t
unfolding members_at
members_no_list key t d there none = rw (there, none)

-- nothing stands at a key
pub members_absent : (key : List ℕ) (t : Members) → get_member key t ≡ None
    → [] ≡ members_at key t
unfolding members_at
members_absent key t none = rw none

-- what one more value makes
pub step_made : {B : Type 0} (f : Data → Option B) (xs : List Value) (k : ℕ) (x : Value)
    (old new : List B) → k < length xs → x ≡ get_or xs k x
    → old ≡ filter_map f (map view (take k xs)) → new ≡ old ++ option_to_list (f (view x))
    → new ≡ filter_map f (map view (take (k + 1) xs))
step_made f xs k x old new within is made grown =
    maybe_more view xs k x x within is old new f made grown

-- what all values make
pub all_made : {B : Type 0} (f : Data → Option B) (xs : List Value) (k : ℕ) (made : List B)
    (ds : List Data) → length xs ≤ k → made ≡ filter_map f (map view (take k xs))
    → map view xs ≡ ds → made ≡ filter_map f ds
all_made f xs k made ds past so same =
    let all = take_all k xs past in
    so ∙ ap (λ (ys : List Value). filter_map f (map view ys)) all ∙ ap (filter_map f) same

-- the tables among the members
pub tables_made : (key : List ℕ) (t : Members) (made : List Members)
    → made ≡ filter_map as_table (members_at key t) → made ≡ tables_at key t
unfolding tables_at
tables_made key t made e = e

-- the texts among the members
pub texts_made : (key : List ℕ) (t : Members) (made : List (List ℕ))
    → made ≡ filter_map as_str (members_at key t) → made ≡ texts_at key t
unfolding texts_at
texts_made key t made e = e

-- no more is made of members than there are
fewer : {A B : Type 0} (f : A → Option B) (xs : List A) → length (filter_map f xs) ≤ length xs
fewer f [] = omega arith
fewer f (x ∷ xs) = let rest = fewer f xs in let here = one (f x) (filter_map f xs) in omega arith
  where
    one : {B : Type 0} (o : Option B) (ys : List B) → length (cons_option o ys) ≤ suc (length ys)
    one None ys = omega arith
    one (Some y) ys = omega arith

-- there are no more tables than members
pub few_tables : (key : List ℕ) (t : Members)
    → length (tables_at key t) ≤ length (members_at key t)
unfolding tables_at
few_tables key t = fewer as_table (members_at key t)

-- there are no more texts than members
pub few_texts : (key : List ℕ) (t : Members) → length (texts_at key t) ≤ length (members_at key t)
unfolding texts_at
few_texts key t = fewer as_str (members_at key t)

-- where nothing stands at a key, no list there has a fault
pub list_absent : (place : Place) (key : List ℕ) (least most : ℕ) (kind : ItemKind) (t : Members)
    → get_member key t ≡ None → list_fault place key least most kind t ≡ None
unfolding list_fault misfit members_at
list_absent place key least most kind t none = rw none

-- a fault behind which nothing is looked at
or_end : (a : Option WorldFault) → option_or a None ≡ a
or_end None = refl
or_end (Some f) = refl

-- what stands at a key is no list of a good length
pub list_wrong : (place : Place) (key : List ℕ) (least most : ℕ) (kind : ItemKind) (t : Members)
    (d : Data) (e : WorldFault) → get_member key t ≡ Some d
    → Tells (wrong_unless (is_list least most d) (path place key)) e
    → Tells (list_fault place key least most kind t) e
unfolding list_fault misfit
list_wrong place key least most kind t d e there h =
    rw there (in_first (wrong_unless (is_list least most d) (path place key)) _ e h)

-- a list of a good length has the first fault of its members
pub list_members : (place : Place) (key : List ℕ) (least most : ℕ) (kind : ItemKind) (t : Members)
    (d : Data) (vs : List Value) → get_member key t ≡ Some d → as_array d ≡ Some (items_view vs)
    → wrong_unless (is_list least most d) (path place key) ≡ None
    → list_fault place key least most kind t
    ≡ first_among (member_fault (path place key) kind) (map view vs)
unfolding list_fault misfit
list_members place key least most kind t d vs there list fits =
    let seen : members_at key t ≡ map view vs = sym (members_there key t d vs there list) in
    rw (there, fits, seen)
    (or_end (first_among (member_fault (path place key) kind) (map view vs)))

-- a member of another kind is the first fault of a list
pub member_wrong : (at : List ℕ) (kind : ItemKind) (vs : List Value) (k : ℕ) (v : Value)
    (all : Option WorldFault) → k < length vs → v ≡ get_or vs k v
    → first_behind (member_fault at kind) (map view (take k vs)) (map view (drop k vs)) ≡ all
    → is_of_kind kind (view v) ≡ false → all ≡ Some (Wrong (numbered at k))
member_wrong at kind vs k v all within is so other =
    let count = so_far view vs k (omega arith) in
    let fails : is_of_kind kind (view (get_or vs k v)) ≡ false =
    ap (λ (y : Value). is_of_kind kind (view y)) (sym is) ∙ other in
    let bad : member_fault at kind (map view (take k vs)) (view (get_or vs k v))
    ≡ Some (Wrong (numbered at k)) = rw (fails, count) in
    turn_bad (member_fault at kind) view vs k v all (Wrong (numbered at k)) within so bad
