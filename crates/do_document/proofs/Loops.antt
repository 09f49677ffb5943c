-- What one more slot, method or class does to what was read so far, and what all come to.
use Rattle.do_document.specs.declared.place.Place.TheVariants as at
use Rattle.std.proofs.Common.{◌≡◌, ℕ, ◌+◌, ◌-◌, ◌<◌, ◌≤◌, List, ◌++◌, length, map, take, drop}
use Rattle.std.proofs.Common.{get_or, Option, Some, None, true, sym, ◌∙◌, ap, arith, Result, Ok}
use Rattle.std.{proofs.Common.{Err, inl, inr, subst}, specs.{List.filter_map, Prelude.codes}}
use Rattle.std.proofs.lemmas.List.{length-map}
use Rattle.toml.specs.Data.{Members}
use Rattle.do_class.specs.{Class.Class, declared.{ids.Slot.Slot, method.Method.Method}}
use Rattle.do_document.specs.Checks.{first_among, first_behind, list_fault}
use Rattle.do_document.specs.ClassFaults.{class_checks, class_fault, entry_checks, entry_fault}
use Rattle.do_document.specs.ClassFaults.{is_new_slot, methods_fault, slot_fault, slots_fault}
use Rattle.do_document.specs.Classes.{class_of, method_of, slot_of, slots_in}
use Rattle.do_document.specs.{Document.{members_at, tables_at, texts_at}, Finding.Finds}
use Rattle.do_document.specs.{Lists.{key_of, place_of}, declared.lists.MethodList.MethodList}
use Rattle.do_document.specs.declared.document.ItemKind.TheVariants.{Text, Table}
use Rattle.do_document.specs.declared.{place.Place.Place, fault.WorldFault.WorldFault}
use Rattle.do_document.proofs.{Finding.{turn_bad, turn_good}, Growing.so_far}
use Rattle.do_document.proofs.{InOrder.{Tells, two_first, two_none, two_second}, InRow.second_found}
use Rattle.do_document.proofs.ListSteps.{few_tables, few_texts}

module _ {A : Type 0} where
  -- a slot of a new name has no fault
  pub slot_good : (place : Place) (v : A → List ℕ) (xs : List A) (k : ℕ) (d : A)
      (slots : List Slot) (slot : Slot) (all : Option WorldFault) → k < length xs
      → first_behind (slot_fault place) (map v (take k xs)) (map v (drop k xs)) ≡ all
      → slots ≡ filter_map slot_of (map v (take k xs)) → slot_of (v (get_or xs k d)) ≡ Some slot
      → is_new_slot slots slot ≡ true
      → first_behind (slot_fault place) (map v (take (k + 1) xs)) (map v (drop (k + 1) xs)) ≡ all
  slot_good place v xs k d slots slot all within so made is new =
      let fresh : is_new_slot (filter_map slot_of (map v (take k xs))) slot ≡ true =
      subst (λ ys. is_new_slot ys slot ≡ true) made new in
      let good : slot_fault place (map v (take k xs)) (v (get_or xs k d)) ≡ None = rw (is, fresh) in
      turn_good (slot_fault place) v xs k d all within so good

  module _ (list : MethodList) (class : ℕ) (earlier : List Method) where
    -- what a table of a list is checked for is its fault among the others
    entry_here : (v : A → Members) (xs : List A) (k : ℕ) (d : A) (methods : List Method)
        → k < length xs → methods ≡ earlier ++ filter_map method_of (map v (take k xs))
        → entry_fault list class earlier (map v (take k xs)) (v (get_or xs k d))
        ≡ entry_checks list (place_of list class k) methods (v (get_or xs k d))
    entry_here v xs k d methods within made =
        let count = so_far v xs k (omega (arith, within)) in
        ap (λ n. entry_checks list (place_of list class n)
        (earlier ++ filter_map method_of (map v (take k xs))) (v (get_or xs k d))) count
        ∙ ap (λ ms. entry_checks list (place_of list class k) ms (v (get_or xs k d))) (sym made)

    -- a table has no fault
    pub entry_turn : (v : A → Members) (xs : List A) (k : ℕ) (d : A) (methods : List Method)
        (all : Option WorldFault) → k < length xs
        → first_behind (entry_fault list class earlier) (map v (take k xs)) (map v (drop k xs))
        ≡ all
        → methods ≡ earlier ++ filter_map method_of (map v (take k xs))
        → entry_checks list (place_of list class k) methods (v (get_or xs k d)) ≡ None
        → first_behind (entry_fault list class earlier) (map v (take (k + 1) xs))
        (map v (drop (k + 1) xs)) ≡ all
    entry_turn v xs k d methods all within so made none =
        turn_good (entry_fault list class earlier) v xs k d all within so
        (entry_here v xs k d methods within made ∙ none)

    -- the first table with a fault has the first fault of all
    pub entry_bad : (v : A → Members) (xs : List A) (k : ℕ) (d : A) (methods : List Method)
        (all : Option WorldFault) (e : WorldFault) → k < length xs
        → first_behind (entry_fault list class earlier) (map v (take k xs)) (map v (drop k xs))
        ≡ all
        → methods ≡ earlier ++ filter_map method_of (map v (take k xs))
        → Tells (entry_checks list (place_of list class k) methods (v (get_or xs k d))) e
        → Tells all e
    entry_bad v xs k d methods all e within so made (inl m) = inl m
    entry_bad v xs k d methods all e within so made (inr h) =
        inr (turn_bad (entry_fault list class earlier) v xs k d all e within so
        (entry_here v xs k d methods within made ∙ h))

  -- what a class is checked for is its fault among the others
  class_here : (v : A → Members) (xs : List A) (k : ℕ) (d : A) (classes : List Class)
      → k < length xs → classes ≡ filter_map class_of (map v (take k xs))
      → class_fault (map v (take k xs)) (v (get_or xs k d))
      ≡ class_checks k classes (v (get_or xs k d))
  class_here v xs k d classes within made =
      let count = so_far v xs k (omega (arith, within)) in
      ap (λ n. class_checks n (filter_map class_of (map v (take k xs))) (v (get_or xs k d))) count
      ∙ ap (λ cs. class_checks k cs (v (get_or xs k d))) (sym made)

  -- a class has no fault
  pub class_turn : (v : A → Members) (xs : List A) (k : ℕ) (d : A) (classes : List Class)
      (all : Option WorldFault) → k < length xs
      → first_behind class_fault (map v (take k xs)) (map v (drop k xs)) ≡ all
      → classes ≡ filter_map class_of (map v (take k xs))
      → class_checks k classes (v (get_or xs k d)) ≡ None
      → first_behind class_fault (map v (take (k + 1) xs)) (map v (drop (k + 1) xs)) ≡ all
  class_turn v xs k d classes all within so made none =
      turn_good class_fault v xs k d all within so (class_here v xs k d classes within made ∙ none)

-- the list of slots has a fault
pub slots_listed : (place : Place) (t : Members) (e : WorldFault)
    → Tells (list_fault place (codes "slots") 0 16 Text t) e → Tells (slots_fault place t) e
unfolding slots_fault
slots_listed place t e h =
    two_first (list_fault place (codes "slots") 0 16 Text t)
    (first_among (slot_fault place) (texts_at (codes "slots") t)) e h

-- a good list of slots is read as its texts are
pub slots_read : (place : Place) (t : Members) (ts : List (List ℕ))
    (result : Result (List Slot) WorldFault)
    → list_fault place (codes "slots") 0 16 Text t ≡ None
    → length (members_at (codes "slots") t) ≤ 16 → ts ≡ texts_at (codes "slots") t
    → Finds (first_among (slot_fault place) ts)
    (λ slots. (slots ≡ filter_map slot_of ts) × (length slots ≤ length ts)) result
    → Finds (slots_fault place t) (λ slots. (slots ≡ slots_in t) × (length slots ≤ 16)) result
unfolding slots_fault slots_in
slots_read place t ts (Ok slots) listed few texts h =
    let none : first_among (slot_fault place) (texts_at (codes "slots") t) ≡ None =
    subst (λ xs. first_among (slot_fault place) xs ≡ None) texts h.0 in
    let count : length ts ≡ length (texts_at (codes "slots") t) = ap length texts in (
      two_none (list_fault place (codes "slots") 0 16 Text t)
          (first_among (slot_fault place) (texts_at (codes "slots") t)) listed none,
      (
        h.1.0 ∙ ap (filter_map slot_of) texts,
        omega (arith, h.1.1, count, few, few_texts (codes "slots") t),
      ),
    )
slots_read place t ts (Err e) listed few texts (inl m) = inl m
slots_read place t ts (Err e) listed few texts (inr h) =
    two_second (list_fault place (codes "slots") 0 16 Text t)
    (first_among (slot_fault place) (texts_at (codes "slots") t)) e listed
    (inr (subst (λ xs. first_among (slot_fault place) xs ≡ Some e) texts h))

-- a list of methods has a fault
pub entries_listed : (list : MethodList) (earlier : List Method) (class : ℕ) (t : Members)
    (e : WorldFault)
    → Tells (list_fault (at.Class class) (key_of list) 0 (64 - length earlier) Table t) e
    → Tells (methods_fault list earlier class t) e
unfolding methods_fault
entries_listed list earlier class t e h =
    two_first (list_fault (at.Class class) (key_of list) 0 (64 - length earlier) Table t)
    (first_among (entry_fault list class earlier) (tables_at (key_of list) t)) e h

-- a good list of methods is read as its tables are
pub entries_read : {B : Type 0} (list : MethodList) (earlier : List Method) (class : ℕ)
    (t : Members) (says : B → Type 0) (result : Result B WorldFault)
    → list_fault (at.Class class) (key_of list) 0 (64 - length earlier) Table t ≡ None
    → Finds (first_among (entry_fault list class earlier) (tables_at (key_of list) t)) says result
    → Finds (methods_fault list earlier class t) says result
unfolding methods_fault
entries_read list earlier class t says result listed h =
    second_found (list_fault (at.Class class) (key_of list) 0 (64 - length earlier) Table t)
    (first_among (entry_fault list class earlier) (tables_at (key_of list) t)) says result listed h

-- the tables of a good list are few
pub tables_few : {A : Type 0} (key : List ℕ) (t : Members) (v : A → Members) (xs : List A)
    (most : ℕ) → length (members_at key t) ≤ most → map v xs ≡ tables_at key t
    → length xs ≤ most
tables_few key t v xs most few made =
    let count : length (map v xs) ≡ length (tables_at key t) = ap length made in
    omega (arith, few, count, length-map xs v, few_tables key t)
