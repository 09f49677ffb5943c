-- What sweeping leaves is what the machine keeps: each holds itself up, and each is the greatest.
use Rattle.std.proofs.Common.{◌≡◌, ◌↔◌, ℕ, ◌<◌, Bool, true, List as Listed, refl, sym, ap, ◌∙◌}
use Rattle.std.proofs.Common.{subst, arith, inl, inr, Some, None, IsSome, Option}
use Rattle.std.{specs.Prelude.is_some, proofs.lemmas.Bool.{or_cases, or_left, or_right}}
use Rattle.do_machine.specs.{declared.node.{Node.Node, Stored.Stored as Object}, Lists.IsIn}
use Rattle.do_machine.specs.{State.own, held.Kept.{AreAmong, AreKept, HoldsItself, is_held_up}}
use Rattle.do_machine.specs.held.{Kept.{kept, stays}, Refers.{heap_objects, objects_in}}
use Rattle.do_machine.proofs.MappedElements.{in_map, of_map}
use Rattle.do_leaving.specs.Counted.{plain, heap_of, serial_of, times}
use Rattle.do_store.specs.{Kept.{HoldsUp, LeavesKept}, Listing.Rising, Names.{Stored, find_stored}}
use Rattle.do_leaving.proofs.SlotNames.{heap_times, values_times, times_has}
use Rattle.do_leaving.proofs.MachineKeeps.{contains_in, in_contains, named_by, one_names}
use Rattle.do_leaving.proofs.MachineKeeps.{object_serial, has_serial, its_serial, kept-rises}
use Rattle.do_leaving.proofs.{MachineKeeps.with_serial, RisingLists.{rising-map, rising-one}}
use Rattle.do_leaving.proofs.{RisingLists.rising-same, StoreLookups.{find_in, in_find}}

-- what is found is one object
found_one : (o p : Stored) → Some o ≡ Some p → o ≡ p
found_one o p e = cc

-- what is found is an object
some_found : (o : Option Stored) → IsSome o → (s : Stored) × (o ≡ Some s)
some_found None there = absurd (cc)
some_found (Some s) there = (s, refl)

module _ (entry : ℕ → ℕ → Bool) (n : Node) (xs ys : Listed Stored) (top : ℕ)
    (heap : n.heap ≡ heap_of xs) (rising : Rising serial_of 0 xs top)
    (risen : Rising serial_of 0 ys top) (within : (o : Stored) → IsIn ys o → IsIn xs o)
    (holders : (o : Stored) → IsIn xs o
    → (0 < o.held) ↔ (is_held_up entry n o.serial ≡ true))
    (left : LeavesKept n.port xs ys) (are : AreKept entry n (kept entry n)) where
  -- an object that was stored is one of the store's
  stored_as : (x : Object) → IsIn n.heap x → (o : Stored) × IsIn xs o × (plain o ≡ x)
  stored_as x a = of_map plain xs x (subst (λ h. IsIn h x) heap a)

  -- an object that is left stays by what is left
  left_stays : (o : Stored) → IsIn ys o → stays entry n (heap_of ys) (plain o) ≡ true
  left_stays o a =
      let found = in_find 0 top ys o risen a in
      let u = left.holds_up o.serial (ap is_some found) in
      let same = found_one u.0 o (sym u.1 ∙ found) in
      elim u.2 [
        | inl above ↦ or_left _ _ ((holders o (within o a)).0
            (subst (λ (s : Stored). 0 < s.held) same above))
        | inr named ↦
            let some = one_names n.port o.serial ys named.0 (contains_in ys named.0 named.1) in
            let all = heap_times n.port o.serial ys in
            or_right (is_held_up entry n o.serial) _
            ((times_has (own n o.serial) (heap_objects (heap_of ys))).0
            (omega (arith, some, all, named.3)))
      ]

  -- what is left holds itself up
  left_up : HoldsItself entry n (heap_of ys)
  left_up = record {
    stay = λ x a. let p = of_map plain ys x a in
        subst (λ (z : Object). stays entry n (heap_of ys) z ≡ true) p.2 (left_stays p.0 p.1);
  }

  -- what is left was stored
  left_among : AreAmong (heap_of ys) n.heap
  left_among = record {
    stand = λ x a. let p = of_map plain ys x a in
        subst (λ h. IsIn h x) (sym heap)
        (subst (λ z. IsIn (heap_of xs) z) p.2 (in_map plain xs p.0 (within p.0 p.1)));
  }

  -- what is kept holds itself up in the store
  kept_up : HoldsUp n.port xs (has_serial (kept entry n))
  kept_up k h =
      let r = with_serial (kept entry n) k h in
      let p = stored_as r.0 (are.part.stand r.0 r.1) in
      let is : p.0.serial ≡ k = ap object_serial p.2 ∙ r.2 in
      let found = in_find 0 top xs p.0 rising p.1 in
      let stay = are.held_up.stay r.0 r.1 in (
        p.0,
        ap (find_stored xs) (sym is) ∙ found,
        elim (or_cases (is_held_up entry n r.0.serial) _ stay) [
          | inl held ↦ inl ((holders p.0 p.1).1
              (ap (λ (x : Object). is_held_up entry n x.serial) p.2 ∙ held))
          | inr named ↦
              let z = named_by (kept entry n) (own n r.0.serial) named in
              let q = stored_as z.0 (are.part.stand z.0 z.1) in
              let some = (times_has (own n r.0.serial) (objects_in z.0.slots)).1 z.2 in
              let a = ap (λ (x : Object). times (own n r.0.serial) (objects_in x.slots)) q.2 in
              let b = values_times n.port k q.0.slots in
              let c = ap (λ j. times (own n j) (objects_in q.0.slots)) r.2 in
              inr (
                q.0,
                in_contains xs q.0 q.1,
                ap (λ (x : Object). has_serial (kept entry n) x.serial) q.2
                    ∙ its_serial (kept entry n) z.0 z.1,
                omega (arith, some, a, b, c),
              )
        ],
      )

  -- what is kept is left
  kept_left : (x : Object) → IsIn (kept entry n) x → IsIn (heap_of ys) x
  kept_left x a =
      let there = left.greatest (has_serial (kept entry n)) kept_up x.serial
      (its_serial (kept entry n) x a) in
      let s = some_found (find_stored ys x.serial) there in
      let f = find_in ys x.serial s.0 s.1 in
      let p = stored_as x (are.part.stand x a) in
      let same = rising-one serial_of 0 top xs s.0 p.0 rising (within s.0 f.0) p.1
      (f.1 ∙ sym (ap object_serial p.2)) in
      subst (λ z. IsIn (heap_of ys) z) (ap plain same ∙ p.2) (in_map plain ys s.0 f.0)

  -- what is left is what is kept
  pub left_is_kept : heap_of ys ≡ kept entry n
  left_is_kept =
      rising-same object_serial 0 0 top top (heap_of ys) (kept entry n)
      (rising-map object_serial plain 0 top ys risen)
      (kept-rises entry n 0 top
      (subst (λ h. Rising object_serial 0 h top) (sym heap)
      (rising-map object_serial plain 0 top xs rising)))
      (λ x a. (are.greatest (heap_of ys) left_among left_up).stand x a) kept_left
