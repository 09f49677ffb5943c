-- A sweep frees what the machine frees, and leaves every count right.
use Rattle.std.specs.FinMap as map
use Rattle.do_base.specs.declared.events.shown.Shown.TheVariants as shows
use Rattle.std.proofs.Common.{◌≡◌, ◌≢◌, ℕ, Bool, not, List as Listed, [], ◌∷◌, map, filter, refl}
use Rattle.std.{proofs.Common.{sym, ap, ◌∙◌, subst, arith, sum_by}, specs.List.Sorted.IsPermutation}
use Rattle.std.{specs.{List.Sorted.IsSorted, Ordering.nat_cmp}, proofs.lemmas.List.Sums.sum_by-cons}
use Rattle.do_base.specs.names.Names.{ObjectName}
use Rattle.do_machine.specs.{declared.node.{Node.Node, Stored.Stored as Object}, Lists.IsIn}
use Rattle.do_machine.specs.{State.own, held.{Kept.{AreKept, kept}, Leaving.freeing}}
use Rattle.do_machine.specs.held.Refers.{heap_objects, objects_in}
use Rattle.do_leaving.specs.Counted.{Counted, IsUsed, heap_of, serial_of, times}
use Rattle.do_import.specs.ByObject.{object_of}
use Rattle.do_export.specs.Counts.{count_of}
use Rattle.do_import.specs.Imported.{Imported}
use Rattle.do_store.specs.Kept.{LeavesKept, NoneIdle, Swept}
use Rattle.do_leaving.specs.Left.{IsEffect, free_shown}
use Rattle.do_store.specs.{Listing.Rising, Names.{Stored, Objects}}
use Rattle.do_leaving.{specs.Sweeping.{Sweeps, foreign_names}, proofs.SweptIsKept.left_is_kept}
use Rattle.do_leaving.proofs.{MachineKeeps.{has_serial, object_serial}, SlotNames.times-append}
use Rattle.do_leaving.proofs.{CountsOff.{all_off-count, foreign-times}, SerialsRise.gone_in_order}
use Rattle.do_leaving.proofs.TakenInTurn.{taken_rises, taken_sum, taken_swept, taken_within}

-- how often the slots of one object name an object
abbrev pub slot_times : ObjectName → Stored → ℕ
slot_times o s = times o (objects_in s.slots)

-- the slots of all name it as often as those of each together
pub heap_sum : (o : ObjectName) (xs : Listed Stored)
    → times o (heap_objects (heap_of xs)) ≡ sum_by (slot_times o) xs
heap_sum o [] = refl
heap_sum o (x ∷ xs) =
    let a = times-append o (objects_in x.slots) (heap_objects (heap_of xs)) in
    let b = sum_by-cons (slot_times o) x xs in
    omega (arith, a, b, heap_sum o xs)

-- what is shown of objects is shown of their serials
shown_serials : (n : Node) (xs : Listed Object)
    → free_shown n (map object_serial xs) ≡ map (λ x. shows.Free (own n x.serial)) xs
shown_serials n [] = refl
shown_serials n (x ∷ xs) = ap (λ l. shows.Free (own n x.serial) ∷ l) (shown_serials n xs)

module _ (entry : ℕ → ℕ → Bool) (n : Node) (old new : Objects) (before after : Imported)
    (serials freed : Listed ℕ) (c : Counted entry n old before)
    (s : Sweeps old new before after serials) (node : new.node ≡ old.node)
    (rising : Rising serial_of 0 old.objects old.next)
    (moved : IsPermutation serials freed) (sorted : IsSorted nat_cmp freed)
    (are : AreKept entry n (kept entry n))
    (law : (node : ℕ) (first left : Listed Stored) → Swept node first left → NoneIdle node left
    → LeavesKept node first left) where
  -- what is left rises
  left_rises : Rising serial_of 0 new.objects old.next
  left_rises = taken_rises old.node 0 old.next old.objects s.gone new.objects s.taken rising

  -- what is left was there
  left_within : (o : Stored) → IsIn new.objects o → IsIn old.objects o
  left_within o a = taken_within old.node old.objects s.gone new.objects o s.taken a

  -- what is left is kept
  pub kept_heap : heap_of new.objects ≡ kept entry n
  kept_heap =
      let P : ℕ → Type 0 = λ m. LeavesKept m old.objects new.objects in
      left_is_kept entry n old.objects new.objects old.next c.heap rising left_rises left_within
      c.holders
      (subst P c.port (law old.node old.objects new.objects
      (taken_swept old.node old.objects s.gone new.objects s.taken) s.none_idle)) are

  -- each foreign object has its uses without those of what is gone
  uses_left : (o : ObjectName) → o.node ≢ n.port
      → IsUsed (freeing (kept entry n) n).node after.uses o
  uses_left o away =
      let u = c.uses o away in
      let off = ap (λ (i : Imported). count_of i.uses o.node o.serial) s.uses in
      let count = all_off-count before.uses (foreign_names old.node s.gone) o in
      let gone = foreign-times old.node (heap_objects (heap_of s.gone)) o
      (λ e. away (e ∙ c.port)) in
      let all = taken_sum (slot_times o) old.node 0 old.next old.objects s.gone new.objects s.taken
      rising in
      let heap = ap (λ h. times o (heap_objects h)) c.heap in
      let left = ap (λ h. times o (heap_objects h)) kept_heap in
      record {
        besides = u.besides;
        counted = omega (
          arith,
          u.counted,
          off,
          count,
          gone,
          all,
          heap,
          left,
          heap_sum o s.gone,
          heap_sum o old.objects,
          heap_sum o new.objects,
        );
        referred = u.referred;
      }

  -- the store and the imports have what is left of the node
  pub free_counted : Counted entry (freeing (kept entry n) n).node new after
  free_counted =
      record {
        port = node ∙ c.port;
        heap = sym kept_heap;
        holders = λ o a. c.holders o (left_within o a);
        held = c.held ∙ ap (λ (i : Imported). map object_of
            (map.keys i.received)) (sym s.uses);
        abroad = c.abroad;
        uses = uses_left;
      }

  -- what is shown is what is freed
  pub free_told : free_shown n freed ≡ (freeing (kept entry n) n).shown
  free_told =
      let in_order = gone_in_order old.node old.next old.objects s.gone new.objects freed s.taken
      rising (subst (λ l. IsPermutation l freed) s.serials moved) sorted in
      ap (free_shown n) in_order
      ∙ shown_serials n
      (filter (λ x. not (has_serial (heap_of new.objects) x.serial)) (heap_of old.objects))
      ∙ (λ i. map (λ (x : Object). shows.Free (own n x.serial))
      (filter (λ x. not (has_serial (kept_heap i) x.serial)) (sym c.heap i)))

  -- a sweep does what freeing does
  pub frees : IsEffect entry n (freeing (kept entry n) n) new after freed []
  frees = record { counted = free_counted; shown = free_told; sent = refl }
