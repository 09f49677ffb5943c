-- The foreign objects that leave are those that the machine drops.
use Rattle.std.specs.FinMap as map
use Rattle.std.proofs.Common.{◌≡◌, ℕ, ◌<◌, Bool, true, false, cond, not, ◌||◌, List, [], ◌∷◌, ◌++◌}
use Rattle.std.proofs.Common.{Some, None, Option, map as each, filter, refl, sym, ap, ◌∙◌, arith}
use Rattle.std.{proofs.Common.{inl, inr}, specs.{Prelude.is_some, Option.unwrap_or}}
use Rattle.std.specs.FinMap.{entries_sorted, get-entries, get-retain_keys}
use Rattle.std.specs.FinMap.Entries.{find-where_key, is_sorted-where_key, same_entries, where_key}
use Rattle.std.proofs.{Math.Bool.or_assoc, lemmas.Bool.{cases_eq, or_cases, or_left, or_right}}
use Rattle.std.proofs.lemmas.{Bool.Decides.nat_tests, List.Folds.list_any-append, Simd.map-map}
use Rattle.do_base.specs.names.Names.{ObjectName}
use Rattle.do_packet.specs.Met.{has_object, same_object}
use Rattle.do_machine.specs.{declared.node.Node.Node, Lists.IsIn, held.Leaving.{dropping, left}}
use Rattle.do_machine.specs.held.Refers.{heap_objects, node_objects, stack_objects}
use Rattle.do_import.specs.ByObject.{object_of}
use Rattle.do_machine.proofs.{Having.has_passing, MappedElements.{filter-map, in_map}}
use Rattle.do_leaving.specs.Counted.{Counted, IsUsed, objects_besides}
use Rattle.do_export.specs.Counts.{Counts, IsPositive, entry_cmp, count_of}
use Rattle.do_import.specs.Imported.{Imported}
use Rattle.do_leaving.specs.{Leavers.{AllLeave, leavers, told}, Left.{IsEffect, left_sent}}
use Rattle.do_store.specs.Names.{Objects}
use Rattle.do_leaving.proofs.SlotNames.{times_has}
use Rattle.do_export.proofs.Order.{entry_total, entry_same}

-- tests that pass together are equal
same_test : (a b : Bool) → (a ≡ true → b ≡ true) → (b ≡ true → a ≡ true) → a ≡ b
same_test true true f g = refl
same_test true false f g = sym (f refl)
same_test false true f g = g refl
same_test false false f g = refl

-- elements that pass one test where they pass another
filter_alike : {X : Type 0} (p q : X → Bool) (xs : List X) → ((x : X) → IsIn xs x → p x ≡ q x)
    → filter p xs ≡ filter q xs
filter_alike p q [] h = refl
filter_alike p q (x ∷ xs) h =
    let rest = filter_alike p q xs (λ y a. h y (inr a)) in
    λ i. cond (h x (inl refl) i) (x ∷ rest i) (rest i)

-- the rows of the keys that stay
retained : (m : Counts) (p : ℕ × ℕ → Bool)
    → map.entries (map.retain_keys m p) ≡ where_key entry_cmp p (map.entries m)
retained m p = same_entries entry_cmp entry_total entry_same _ _
    (entries_sorted (map.retain_keys m p))
    (is_sorted-where_key entry_cmp p (map.entries m) (entries_sorted m))
    (λ q. sym (get-entries (map.retain_keys m p) q)
    ∙ get-retain_keys m p q (λ x t. ap p (sym (entry_same q x t)))
    ∙ ap (λ v. cond (p q) v None) (get-entries m q)
    ∙ sym (find-where_key entry_cmp p q (λ x t. ap p (sym (entry_same q x t))) (map.entries m)))

-- an object's name is its own
itself : (o x : ObjectName) → o ≡ x → same_object o x ≡ true
itself o x e = grind (
  arith,
  nat_tests,
  ap (λ (y : ObjectName). y.node) e,
  ap (λ (y : ObjectName). y.serial) e,
)

-- an object that stands among others is one of them
is_among : (o : ObjectName) (os : List ObjectName) → IsIn os o → has_object os o ≡ true
is_among o [] a = absurd a
is_among o (x ∷ os) (inl e) = or_left (same_object o x) _ (itself o x (sym e))
is_among o (x ∷ os) (inr a) = or_right (same_object o x) _ (is_among o os a)

-- a node refers to an object in slots or besides
refers_besides : (n : Node) (o : ObjectName) → has_object (node_objects n) o
    ≡ (has_object (heap_objects n.heap) o || has_object (objects_besides n) o)
refers_besides n o =
    let lent = each (λ l. l.object) n.lent in
    let asked = each (λ w. w.object) n.asked in
    let heap = heap_objects n.heap in
    let stack = stack_objects n.stack in
    list_any-append (same_object o) (heap ++ stack ++ lent) asked
    ∙ ap (λ b. b || has_object asked o) (list_any-append (same_object o) (heap ++ stack) lent
    ∙ ap (λ b. b || has_object lent o) (list_any-append (same_object o) heap stack))
    ∙ ap (λ b. b || has_object asked o)
    (or_assoc (has_object heap o) (has_object stack o) (has_object lent o))
    ∙ or_assoc (has_object heap o) (has_object stack o || has_object lent o) (has_object asked o)
    ∙ ap (λ b. has_object heap o || b) (sym (list_any-append (same_object o) (stack ++ lent) asked
    ∙ ap (λ b. b || has_object asked o) (list_any-append (same_object o) stack lent)))

-- a count above 0 stands there
is_counted : (v : Option ℕ) → 0 < unwrap_or v 0 → is_some v ≡ true
is_counted None h = absurd (omega arith)
is_counted (Some n) h = refl

module _ (n : Node) (uses : Counts) (o : ObjectName) (u : IsUsed n uses o)
    (none : IsPositive uses) where
  -- a used object is referred to
  used_refers : map.contains_key uses (o.node, o.serial) ≡ true
      → (has_object (heap_objects n.heap) o || has_object (objects_besides n) o) ≡ true
  used_refers h = elim (cases_eq u.besides 0) [
    | inl zero ↦ or_left _ _ ((times_has o (heap_objects n.heap)).0
        (omega (arith, u.counted, none (o.node, o.serial) h, zero)))
    | inr some ↦ or_right (has_object (heap_objects n.heap) o) _
        (u.referred.0 (omega (arith, some)))
  ]

  -- an object that is referred to is used
  refers_used : (has_object (heap_objects n.heap) o || has_object (objects_besides n) o) ≡ true
      → map.contains_key uses (o.node, o.serial) ≡ true
  refers_used h = is_counted (map.get uses (o.node, o.serial))
      (elim (or_cases (has_object (heap_objects n.heap) o) _ h) [
        | inl slots ↦ let some = (times_has o (heap_objects n.heap)).1 slots in
            omega (arith, u.counted, some)
        | inr besides ↦ let some = u.referred.1 besides in omega (arith, u.counted, some)
      ])

  -- a foreign object has a use just where the node refers to it
  pub used_is_referred : map.contains_key uses (o.node, o.serial) ≡ has_object (node_objects n) o
  used_is_referred = same_test _ _ used_refers refers_used ∙ sym (refers_besides n o)

module _ (entry : ℕ → ℕ → Bool) (n : Node) (store : Objects) (old new : Imported)
    (gone : List (ObjectName × ℕ)) (c : Counted entry n store old) (all : AllLeave old new [] gone)
    (positive : IsPositive old.uses) where
  -- an object that was received is used just where the node refers to it
  held_used : (q : ℕ × ℕ) → IsIn (map.keys old.received) q
      → map.contains_key old.uses q ≡ has_object (node_objects n) (object_of q)
  held_used q a =
      let there = is_among (object_of q) (each object_of (map.keys old.received))
      (in_map object_of (map.keys old.received) q a) in
      let away = c.abroad (object_of q)
      (ap (λ os. has_object os (object_of q)) c.held ∙ there) in
      used_is_referred n old.uses (object_of q) (c.uses (object_of q) away) positive

  -- so it is with its row
  row_used : (e : (ℕ × ℕ) × ℕ) → IsIn (map.entries old.received) e
      → map.contains_key old.uses e.0 ≡ has_object (node_objects n) (object_of e.0)
  row_used e a = held_used e.0 (in_map (λ r. r.0) (map.entries old.received) e a)

  -- what is told is what the machine sends
  sent_is : left_sent gone ≡ (dropping (node_objects n) n).sent
  sent_is =
      let rows = map.entries old.received in
      let refers : ObjectName → Bool = has_object (node_objects n) in
      ap left_sent all.told_of
      ∙ map-map (λ (one : ObjectName × ℕ). left one.0) told (leavers old.received old.uses)
      ∙ ap (each (λ (e : (ℕ × ℕ) × ℕ). left (object_of e.0)))
      (filter_alike (λ (e : (ℕ × ℕ) × ℕ). not (map.contains_key old.uses e.0))
      (λ (e : (ℕ × ℕ) × ℕ). not (refers (object_of e.0))) rows
      (λ e a. ap not (row_used e a)))
      ∙ sym (ap (λ os. each left (filter (λ o. not (refers o)) os)) (c.held
      ∙ map-map object_of (λ (e : (ℕ × ℕ) × ℕ). e.0) rows)
      ∙ ap (each left) (filter-map (λ (e : (ℕ × ℕ) × ℕ). object_of e.0)
      (λ o. not (refers o)) rows)
      ∙ map-map left (λ (e : (ℕ × ℕ) × ℕ). object_of e.0)
      (filter (λ (e : (ℕ × ℕ) × ℕ). not (refers (object_of e.0))) rows))

  -- what is held is what is still received
  held_is : filter (has_object (node_objects n)) n.held ≡ each object_of (map.keys new.received)
  held_is =
      let rows = map.entries old.received in
      let refers : ObjectName → Bool = has_object (node_objects n) in
      ap (filter refers) (c.held ∙ map-map object_of (λ (e : (ℕ × ℕ) × ℕ). e.0) rows)
      ∙ filter-map (λ (e : (ℕ × ℕ) × ℕ). object_of e.0) refers rows
      ∙ ap (each (λ (e : (ℕ × ℕ) × ℕ). object_of e.0))
      (filter_alike (λ (e : (ℕ × ℕ) × ℕ). refers (object_of e.0))
      (λ (e : (ℕ × ℕ) × ℕ). map.contains_key old.uses e.0) rows (λ e a. sym (row_used e a)))
      ∙ sym (map-map object_of (λ (e : (ℕ × ℕ) × ℕ). e.0)
      (where_key entry_cmp (map.contains_key old.uses) rows))
      ∙ ap (λ l. each object_of (each (λ (e : (ℕ × ℕ) × ℕ). e.0) l))
      (sym (retained old.received (map.contains_key old.uses)))
      ∙ ap (λ (i : Imported). each object_of (map.keys i.received)) (sym all.same)

  -- the store and the imports have what the node still holds
  drop_counted : Counted entry (dropping (node_objects n) n).node store new
  drop_counted =
      let uses : new.uses ≡ old.uses = ap (λ (i : Imported). i.uses) all.same in
      record {
        port = c.port;
        heap = c.heap;
        holders = c.holders;
        held = held_is;
        abroad = λ o h. c.abroad o (has_passing (has_object (node_objects n)) n.held o h);
        uses = λ o away.
            let u = c.uses o away in
            let e = ap (λ us. count_of us o.node o.serial) uses in
            record { besides = u.besides; counted = e ∙ u.counted; referred = u.referred };
      }

  -- what leaves is what dropping leaves
  pub drops : IsEffect entry n (dropping (node_objects n) n) store new [] gone
  drops = record { counted = drop_counted; shown = refl; sent = sent_is }
