-- Observers in a set, as the list of them.
use Rattle.std.proofs.Common.{◌≡◌, ℕ, zero, suc, Bool, true, false, not, ◌&&◌, List, [], ◌∷◌, ◌++◌}
use Rattle.std.proofs.Common.{Some, None, take, refl, sym, ◌∙◌, ap, true≢false}
use Rattle.std.specs.Prelude.{if◌then◌else◌, slice_get, ◌||◌}
use Rattle.indexmap.specs.IndexSet.{insert_key}
use Rattle.do_base.specs.names.Names.{ObjectName}
use Rattle.do_native_acts.specs.laws.KindLaws.{some_same}
use Rattle.do_center.specs.Observers.{are_distinct, has_object, same_object}
use Rattle.std.specs.Cmp.Lexicographic.{pointwise}
use Rattle.do_base.specs.{values.Equal.value_eq, declared.values.value.Value.Value}
use Rattle.std.proofs.lemmas.Bool.{and_from}
use Rattle.do_center.specs.Seats.{are_seats, are_suspended, read_suspended}
use Rattle.do_center.specs.{Slots.{of_core, to_slots}, declared.seats.Seat.Seat}
use Rattle.do_center.specs.laws.SameObject.{same_is, same_refl}

-- one that is not among these goes last in the set
pub new_goes_last : (os : List ObjectName) (o : ObjectName) → has_object os o ≡ false
    → insert_key same_object os o ≡ os ++ o ∷ []
new_goes_last os o absent = ap (λ b. if b then os else os ++ o ∷ []) absent

-- an object that is at a place is among these
there : (os : List ObjectName) (k : ℕ) (o : ObjectName) → slice_get os k ≡ Some o
    → has_object os o ≡ true
there [] k o found = cc
there (x ∷ os) zero o found =
    ap (λ y. same_object o y || has_object os o) (some_same found)
    ∙ ap (λ b. b || has_object os o) (same_refl o)
there (x ∷ os) (suc k) o found =
    ap (λ b. same_object o x || b) (there os k o found) ∙ or_true (same_object o x)
  where
    or_true : (b : Bool) → (b || true) ≡ true
    or_true true = refl
    or_true false = refl

-- where one is among those in front of it, an object is there twice
pub there_twice : (os : List ObjectName) (k : ℕ) (o : ObjectName) → slice_get os k ≡ Some o
    → has_object (take k os) o ≡ true → are_distinct os ≡ false
there_twice [] k o found before = cc
there_twice (x ∷ os) zero o found before = absurd (true≢false (sym before))
there_twice (x ∷ os) (suc k) o found before =
    by (same_object o x) refl before (there_twice os k o found)
  where
    and_false : (b : Bool) → (b && false) ≡ false
    and_false true = refl
    and_false false = refl

    by : (b : Bool) → same_object o x ≡ b → (b || has_object (take k os) o) ≡ true
        → (has_object (take k os) o ≡ true → are_distinct os ≡ false)
        → (not (has_object os x) && are_distinct os) ≡ false
    by true same either later =
        ap (λ b. not b && are_distinct os)
        (ap (has_object os) (sym (same_is o x same)) ∙ there os k o found)
    by false differs either later =
        ap (λ b. not (has_object os x) && b) (later either) ∙ and_false (not (has_object os x))

-- observers that are read can be a core's, and are those of the list
pub read_parts : (os xs : List ObjectName) → read_suspended os ≡ Some xs
    → (are_suspended os ≡ true) × (xs ≡ os)
read_parts os xs e = by (are_suspended os) e
  where
    by : (b : Bool) → (if b then Some os else None) ≡ Some xs → (b ≡ true) × (xs ≡ os)
    by true e = (refl, sym (some_same e))
    by false e = cc

-- a core is read where the slots that it shows are these
pub core_shown : (slots : List Value) (ss : List Seat) (os xs : List ObjectName) (b : Bool)
    → are_seats ss ≡ true → read_suspended os ≡ Some xs
    → pointwise value_eq (to_slots (ss, xs)) slots ≡ b
    → of_core slots (ss, os) ≡ (if b then Some (ss, xs) else None)
core_shown slots ss os xs b seats read shown =
    let parts = read_parts os xs read in
    ap (λ c. if c && pointwise value_eq (to_slots (ss, os)) slots then Some (ss, os) else None)
    (and_from (are_seats ss) (are_suspended os) seats parts.0)
    ∙ ap (λ (ys : List ObjectName).
    if pointwise value_eq (to_slots (ss, ys)) slots then Some (ss, ys) else None) (sym parts.1)
    ∙ ap (λ c. if c then Some (ss, xs) else None) shown
