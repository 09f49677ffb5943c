-- What holds of the registrations of a core with their queues holds where the queue of an observer
-- is another.
use Rattle.std.proofs.Common.{◌≡◌, ◌<◌, ◌≤◌, Bool, true, false, List, [], ◌∷◌, length, refl, ◌∙◌}
use Rattle.std.{proofs.Common.{ap, arith, length-append}, specs.Prelude.{if◌then◌else◌, not, ◌||◌}}
use Rattle.std.specs.{Prelude.{nat_le, nat_lt, remove}, List.{All, list_all}}
use Rattle.std.proofs.lemmas.Bool.{and_parts, and_from, cond_both, le-leb, leb-true, ltb-true}
use Rattle.std.proofs.lemmas.List.{Elements.{All-nil, All-weaker}, Sums.AllPass-from_list_all}
use Rattle.std.proofs.lemmas.List.Sums.{list_all-from_AllPass, count_by-le-length, length-filter}
use Rattle.do_base.specs.names.Names.{ObjectName}
use Rattle.do_native_acts.specs.laws.KeptLaws.{each_holds}
use Rattle.do_center.specs.{Observers.same_object, Queues.{same_kind, seat_with, with_queue}}
use Rattle.do_center.specs.{Queues.with_room, Registrations.is_registration, Seats.are_apart}
use Rattle.do_center.specs.Seats.{has_none, is_none, is_queue, is_queued, is_seat, registrations}
use Rattle.do_center.specs.declared.{queues.Queued.Queued, registrations.Registration.Registration}
use Rattle.do_center.specs.{declared.seats.Seat.Seat, laws.{PostLaws.IsPosted, QueueLaws.Fits}}
use Rattle.do_center.specs.laws.QueueLaws.{coalesced_kept, enqueued_kept, queue_fits, with_fits}
use Rattle.do_center.specs.laws.SameObject.{same_sym}

-- the registrations are the same
pub with_registrations : (ss : List Seat) (o : ObjectName) (q : List Queued)
    → registrations (with_queue ss o q) ≡ registrations ss
with_registrations [] o q = refl
with_registrations (s ∷ ss) o q =
    cond_both (same_object s.registration.observer o) (seat_with s q ∷ ss)
    (s ∷ with_queue ss o q) (λ xs. registrations xs ≡ registrations (s ∷ ss)) (λ _. refl)
    (λ _. ap (λ rs. s.registration ∷ rs) (with_registrations ss o q))

-- of two queues that an observer gets the last one stays
pub with_again : (ss : List Seat) (o : ObjectName) (p q : List Queued)
    → with_queue (with_queue ss o p) o q ≡ with_queue ss o q
with_again [] o p q = refl
with_again (s ∷ ss) o p q =
    by (same_object s.registration.observer o) refl (with_again ss o p q)
  where
    by : (b : Bool) → same_object s.registration.observer o ≡ b
        → with_queue (with_queue ss o p) o q ≡ with_queue ss o q
        → with_queue (if b then seat_with s p ∷ ss else s ∷ with_queue ss o p) o q
        ≡ (if b then seat_with s q ∷ ss else s ∷ with_queue ss o q)
    by true same rest =
        ap (λ b. if b then seat_with s q ∷ ss else seat_with s p ∷ with_queue ss o q) same
    by false same rest =
        ap (λ b. if b then seat_with s q ∷ with_queue ss o p
        else s ∷ with_queue (with_queue ss o p) o q) same
        ∙ ap (λ xs. s ∷ xs) rest

-- a registration within the limits
abbrev pub IsGiven : Registration → Type 0
IsGiven r = is_registration r ≡ true

module _ (rs : List Registration) where
  -- a notification that came by a registration of the observer
  abbrev pub CameBy : ObjectName → Queued → Type 0
  CameBy o e = is_queued rs o e ≡ true

  -- a queue that the observer may have
  abbrev pub MayWait : ObjectName → List Queued → Type 0
  MayWait o q = (length q ≤ 64) × All (CameBy o) q

  -- a registration with a queue that its observer may have
  abbrev pub IsSeat : Seat → Type 0
  IsSeat s = Fits IsGiven MayWait s

  -- registrations that keep the limits are such
  pub seats_of : (ss : List Seat) → list_all (is_seat rs) ss ≡ true → All IsSeat ss
  seats_of ss all =
      All-weaker (λ (s : Seat). is_seat rs s ≡ true) IsSeat (λ s is.
      let o = s.registration.observer in
      let parts = and_parts (is_registration s.registration) (is_queue rs o s.queue) is in
      let queue =
      and_parts (nat_le (length s.queue) 64) (list_all (is_queued rs o) s.queue) parts.1 in (
        parts.0,
        (
          leb-true (length s.queue) 64 queue.0,
          AllPass-from_list_all (is_queued rs o) s.queue queue.1,
        ),
      )) ss (AllPass-from_list_all (is_seat rs) ss all)

  -- and the other way round
  pub seats_are : (ss : List Seat) → All IsSeat ss → list_all (is_seat rs) ss ≡ true
  seats_are ss all =
      list_all-from_AllPass (is_seat rs) ss
      (All-weaker IsSeat (λ (s : Seat). is_seat rs s ≡ true) (λ s is.
      let o = s.registration.observer in
      and_from (is_registration s.registration) (is_queue rs o s.queue) is.0
      (and_from (nat_le (length s.queue) 64) (list_all (is_queued rs o) s.queue)
      (le-leb (length s.queue) 64 is.1.0)
      (list_all-from_AllPass (is_queued rs o) s.queue is.1.1))) ss all)

module _ (p : ObjectName) where
  -- a queue that is none of this observer's, or is empty
  abbrev pub NoneOf : ObjectName → List Queued → Type 0
  NoneOf o q = (not (same_object o p) || is_none q) ≡ true

  -- so it is where the observer has no queue
  pub none_fit : (ss : List Seat) → list_all (has_none p) ss ≡ true
      → All (Fits (λ r. Unit {0}) NoneOf) ss
  none_fit ss all =
      All-weaker (λ (s : Seat). has_none p s ≡ true) (Fits (λ r. Unit {0}) NoneOf)
      (λ s is. (tt, is)) ss (AllPass-from_list_all (has_none p) ss all)

  -- and the other way round
  pub none_from : (ss : List Seat) → All (Fits (λ r. Unit {0}) NoneOf) ss
      → list_all (has_none p) ss ≡ true
  none_from ss all =
      list_all-from_AllPass (has_none p) ss
      (All-weaker (Fits (λ r. Unit {0}) NoneOf) (λ (s : Seat). has_none p s ≡ true)
      (λ s is. is.1) ss all)

-- each queue still stands at the first registration of its observer
with_apart : (ss : List Seat) (o : ObjectName) (q : List Queued) → are_apart ss ≡ true
    → are_apart (with_queue ss o q) ≡ true
with_apart [] o q apart = refl
with_apart (s ∷ ss) o q apart =
    let p = s.registration.observer in
    let parts = and_parts (list_all (has_none p) ss) (are_apart ss) apart in
    cond_both (same_object p o) (seat_with s q ∷ ss) (s ∷ with_queue ss o q)
    (λ xs. are_apart xs ≡ true) (λ _. apart)
    (λ other. and_from (list_all (has_none p) (with_queue ss o q)) (are_apart (with_queue ss o q))
    (none_from p (with_queue ss o q)
    (with_fits (λ r. Unit {0}) (NoneOf p) ss o q
    (ap (λ b. not b || is_none q) (same_sym o p ∙ other)) (none_fit p ss parts.0)))
    (with_apart ss o q parts.1))

-- without its first a queue is shorter
shorter : (q : List Queued) → length q ≤ 64 → length (remove q 0) < 64
shorter [] few = omega arith
shorter (e ∷ q) few = omega (arith, few)

-- with room it has at most 63
with_room_few : (q : List Queued) → length q ≤ 64 → length (with_room q) < 64
with_room_few q few =
    cond_both (nat_lt (length q) 64) q (remove q 0) (λ xs. length xs < 64)
    (λ short. ltb-true (length q) 64 short) (λ _. shorter q few)

-- registrations that are these, each with a queue that its observer may have
abbrev pub AreSeats : List Registration → List Seat → Type 0
AreSeats rs ss = (registrations ss ≡ rs) × All (IsSeat rs) ss × (are_apart ss ≡ true)

-- a post leaves them such
pub seats_posted : (rs : List Registration)
    → IsPosted (AreSeats rs) (MayWait rs) (CameBy rs) (λ e. Unit {0})
seats_posted rs = record {
  queue =
      λ ss o are. queue_fits IsGiven (MayWait rs) ss o
      (omega arith, All-nil (CameBy rs o)) are.1;
  none = λ o. (omega arith, All-nil (CameBy rs o));
  replaced =
      λ ss o q are queue. (
        with_registrations ss o q ∙ are.0,
        with_fits IsGiven (MayWait rs) ss o q queue are.1,
        with_apart ss o q are.2,
      );
  pushed =
      λ o q e may new. (
        omega (arith, length-append (with_room q) (e ∷ []), with_room_few q may.0),
        enqueued_kept (CameBy rs o) q e may.1 new,
      );
  reduced =
      λ o q e may.
      let stays = λ (x : Queued). not (same_kind x e) in (
        omega (arith, length-filter stays q, count_by-le-length stays q, may.0),
        coalesced_kept (CameBy rs o) q e may.1,
      );
  due = λ o q may. each_holds (λ (e : Queued). Unit {0}) (λ e. tt) q;
  new = λ o e new. tt;
}
