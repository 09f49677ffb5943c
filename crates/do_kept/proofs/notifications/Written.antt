-- The slots and the deliveries of a center of such texts can be carried.
use Rattle.do_center.proofs.SeatsKept as center
use Rattle.std.proofs.Common.{◌≡◌, ◌<◌, ◌≤◌, ℕ, true, false, refl, sym, List as Listed, [], ◌∷◌}
use Rattle.std.proofs.Common.{length, map, arith, true≢false, ◌∙◌}
use Rattle.std.specs.{Prelude.{None, Option, Some, pos, slice_get}, List.{All, AllByRecursion}}
use Rattle.std.proofs.lemmas.{Bool.and_parts, List.Elements.All-from_recursion}
use Rattle.std.proofs.lemmas.{List.Elements.recursion_from_All, Option.slice_get_within}
use Rattle.do_base.specs.{names.Names.ObjectName, values.Kinds.object}
use Rattle.do_base.specs.declared.values.value.Value.{List, TheVariants.{Num, Obj, Text}}
use Rattle.do_native_acts.specs.Rows.{listed}
use Rattle.do_center.specs.Notes.{delivery_value, is_note, label_value}
use Rattle.do_center.specs.Registrations.{number_of, registration_value}
use Rattle.do_center.specs.Seats.{Core, is_of, is_queued, registrations}
use Rattle.do_center.specs.Slots.{queued_value, to_slots, waiting, waiting_value}
use Rattle.do_center.specs.declared.{notes.Delivery.Delivery, queues.Queued.Queued}
use Rattle.do_center.specs.declared.{registrations.Registration.Registration, seats.Seat.Seat}
use Rattle.do_center.specs.declared.suspension.Suspension.{Suspension, TheVariants.{Coalesce, Drop}}
use Rattle.do_center.specs.declared.suspension.Suspension.TheVariants.{Hold, DeliverImmediately}
use Rattle.do_center.specs.laws.QueueLaws.{Fits, registrations_fit, waiting_fit}
use Rattle.do_center.proofs.CoreKept.{seats_parts}
use Rattle.do_facts.proofs.EachOfLists.{each_mapped, each_of, each_weaker}
use Rattle.do_kept.proofs.Limited.{AllHaveAtoms, HasAtoms, atoms-Nil, atoms-Obj, atoms-Text}
use Rattle.do_kept.proofs.Limited.{count_atoms, list_atoms, listed_atoms}
use Rattle.do_kept.proofs.notifications.OfBytes.{AreEntries, IsCoreOf, IsDelivery, IsEntry, IsLabel}
use Rattle.do_kept.proofs.notifications.OfBytes.{IsRegistered, IsSeat, Waiting}

-- a label has atoms
label_atoms : (l : Option (Listed ℕ)) → IsLabel l → HasAtoms (label_value l)
label_atoms None h = atoms-Nil
label_atoms (Some s) h = atoms-Text s ∙ h

-- so has the row of a registration
registration_atoms : (r : Registration) → IsRegistered r → HasAtoms (registration_value r)
registration_atoms r h =
    list_atoms (Obj r.observer ∷ Text r.selector ∷ label_value r.name ∷ label_value r.object
    ∷ Num (pos (number_of r.behaviour)) ∷ []) (
      atoms-Obj r.observer,
      (
        atoms-Text r.selector ∙ h.0,
        (label_atoms r.name h.1.0, (label_atoms r.object h.1.1, (behaviour r.behaviour, tt))),
      ),
    )
  where
    behaviour : (b : Suspension) → HasAtoms (Num (pos (number_of b)))
    behaviour Drop = count_atoms 1 (omega arith)
    behaviour Coalesce = count_atoms 2 (omega arith)
    behaviour Hold = count_atoms 3 (omega arith)
    behaviour DeliverImmediately = count_atoms 4 (omega arith)

-- what waits, at a place below 256
abbrev IsPlaced : Queued → Type 0
IsPlaced e = (e.place < 9223372036854775808) × IsEntry e

-- so has its row
queued_atoms : (e : Queued) → IsPlaced e → HasAtoms (queued_value e)
queued_atoms e h =
    list_atoms (Num (pos e.place) ∷ Text e.note.name ∷ label_value e.note.object ∷ e.note.info
    ∷ []) (
      count_atoms e.place h.0,
      (
        atoms-Text e.note.name ∙ h.1.0,
        (label_atoms e.note.object h.1.1.0, (h.1.1.1, tt)),
      ),
    )

-- so has that of an observer with its queue
waiting_atoms : (w : Waiting) → AllByRecursion IsPlaced w.queue → HasAtoms (waiting_value w)
waiting_atoms w h =
    list_atoms (Obj w.observer ∷ listed (map queued_value w.queue) ∷ []) (
      atoms-Obj w.observer,
      (
        listed_atoms (map queued_value w.queue)
            (each_mapped HasAtoms queued_value w.queue
            (each_weaker IsPlaced (λ e. HasAtoms (queued_value e)) queued_atoms w.queue h)),
        tt,
      ),
    )

-- what waits at one of at most 256 registrations has such a place
placed_at : (rs : Listed Registration) (o : ObjectName) (e : Queued) → length rs ≤ 256 →
    is_queued rs o e ≡ true → e.place < 9223372036854775808
placed_at rs o e few is =
    by (slice_get rs e.place) refl
    ((and_parts (is_of o (slice_get rs e.place)) (is_note e.note) is).0)
  where
    by : (r : Option Registration) → slice_get rs e.place ≡ r → is_of o r ≡ true →
        e.place < 9223372036854775808
    by None at is = absurd (true≢false (sym is))
    by (Some r) at is = omega (arith, few, slice_get_within rs e.place r at)

-- so does each of a queue
all_placed : (rs : Listed Registration) (o : ObjectName) (q : Listed Queued) → length rs ≤ 256 →
    AllByRecursion (λ e. is_queued rs o e ≡ true) q → AllByRecursion IsEntry q →
    AllByRecursion IsPlaced q
all_placed rs o [] few is h = tt
all_placed rs o (e ∷ q) few is h =
    ((placed_at rs o e few is.0, h.0), all_placed rs o q few is.1 h.1)

-- registrations with such queues
abbrev IsPlacedSeat : Seat → Type 0
IsPlacedSeat s = Fits (λ r. Unit {0}) (λ o q. AllByRecursion IsPlaced q) s

-- so do all registrations that keep the limits
seats_placed : (rs : Listed Registration) (ss : Listed Seat) → length rs ≤ 256 →
    AllByRecursion (center.IsSeat rs) ss → AllByRecursion IsSeat ss →
    AllByRecursion IsPlacedSeat ss
seats_placed rs [] few is h = tt
seats_placed rs (s ∷ ss) few is h = (
  (
    tt,
    all_placed rs s.registration.observer s.queue few
        (recursion_from_All (center.CameBy rs s.registration.observer) s.queue is.0.1.1)
        (recursion_from_All IsEntry s.queue h.0.1),
  ),
  seats_placed rs ss few is.1 h.1,
)

-- the slots of a core have atoms
pub slots_atoms : (c : Core) → IsCoreOf c → AllHaveAtoms (to_slots c)
slots_atoms c h = (
  listed_atoms (map registration_value (registrations c.0))
      (each_mapped HasAtoms registration_value (registrations c.0)
      (each_weaker IsRegistered (λ r. HasAtoms (registration_value r)) registration_atoms
      (registrations c.0)
      (recursion_from_All IsRegistered (registrations c.0)
      (registrations_fit IsRegistered (λ o q. AreEntries q) c.0 h.1)))),
  (
    listed_atoms (map Obj c.1)
        (each_mapped HasAtoms Obj c.1 (each_of (λ o. HasAtoms (Obj o)) atoms-Obj c.1)),
    (
      listed_atoms (map waiting_value (waiting c.0))
          (each_mapped HasAtoms waiting_value (waiting c.0)
          (each_weaker (λ (w : Waiting). AllByRecursion IsPlaced w.queue)
          (λ w. HasAtoms (waiting_value w)) waiting_atoms (waiting c.0) queues)),
      tt,
    ),
  ),
)
  where
    queues : AllByRecursion (λ (w : Waiting). AllByRecursion IsPlaced w.queue) (waiting c.0)
    queues =
        let parts = seats_parts c.0 h.0 in
        recursion_from_All (λ (w : Waiting). AllByRecursion IsPlaced w.queue) (waiting c.0)
        (waiting_fit (λ r. Unit {0}) (λ o q. AllByRecursion IsPlaced q) c.0
        (All-from_recursion IsPlacedSeat c.0
        (seats_placed (registrations c.0) c.0 parts.0
        (recursion_from_All (center.IsSeat (registrations c.0)) c.0 parts.1.1)
        (recursion_from_All IsSeat c.0 h.1))))

-- a delivery has atoms
delivery_atoms : (d : Delivery) → IsDelivery d → HasAtoms (delivery_value d)
delivery_atoms d h =
    list_atoms (Obj d.observer ∷ Text d.selector ∷ Text d.note.name ∷ label_value d.note.object
    ∷ d.note.info ∷ []) (
      atoms-Obj d.observer,
      (
        atoms-Text d.selector ∙ h.0,
        (
          atoms-Text d.note.name ∙ h.1.0,
          (label_atoms d.note.object h.1.1.0, (h.1.1.1, tt)),
        ),
      ),
    )

-- so has the list of deliveries
pub deliveries_atoms : (ds : Listed Delivery) → All IsDelivery ds →
    HasAtoms (List (map delivery_value ds))
deliveries_atoms ds h =
    list_atoms (map delivery_value ds)
    (each_mapped HasAtoms delivery_value ds
    (each_weaker IsDelivery (λ d. HasAtoms (delivery_value d)) delivery_atoms ds
    (recursion_from_All IsDelivery ds h)))
