-- What holds of registrations and of the queues of their observers holds where some change or go.
use Rattle.std.proofs.Common.{◌≡◌, ℕ, Bool, List, [], ◌∷◌, Option, Some, None, length, refl, sym}
use Rattle.std.proofs.Common.{subst}
use Rattle.std.specs.{Prelude.{not, nat_lt, remove, slice_index_or}, List.All}
use Rattle.std.proofs.lemmas.{Bool.cond_both, List.Elements.{All-nil, All-cons, All-head, All-tail}}
use Rattle.std.proofs.lemmas.List.Elements.{All-filter, All-map, All-push, All-weaker}
use Rattle.do_base.specs.names.Names.{ObjectName}
use Rattle.do_native_acts.specs.laws.KeptLaws.{kept_flat}
use Rattle.do_center.specs.{Observers.same_object, Queues.{coalesced, enqueued, queue_of}}
use Rattle.do_center.specs.Queues.{same_kind, seat_with, with_queue, with_room}
use Rattle.do_center.specs.{Removing.{moved, moved_entry, seat_left, seats_left}, Seats.is_none}
use Rattle.do_center.specs.{Seats.registrations, Slots.waiting, declared.queues.Queued.Queued}
use Rattle.do_center.specs.declared.{registrations.Registration.Registration, seats.Seat.Seat}
use Rattle.do_center.specs.{declared.slots.Waiting.Waiting, laws.SameObject.same_is}

module _ (E : Queued → Type 0) where
  -- a queue without its first
  shorter_kept : (q : List Queued) → All E q → All E (remove q 0)
  shorter_kept [] all = all
  shorter_kept (e ∷ q) all = All-tail E e q all

  -- a queue with one more where there is room
  pub enqueued_kept : (q : List Queued) (e : Queued) → All E q → E e → All E (enqueued q e)
  enqueued_kept q e all new =
      All-push E (with_room q) e
      (cond_both (nat_lt (length q) 64) q (remove q 0) (All E) (λ _. all)
      (λ _. shorter_kept q all)) new

  -- what a new one leaves of a queue
  pub coalesced_kept : (q : List Queued) (e : Queued) → All E q → All E (coalesced q e)
  coalesced_kept q e all = All-filter (λ x. not (same_kind x e)) E q all

  -- what waits at registrations that stay, at the places that they then have
  pub moved_kept : (F : Queued → Type 0) (ps : List (Option ℕ))
      → ((e : Queued) (k : ℕ) → slice_index_or ps e.place None ≡ Some k → E e
      → F (record { place = k; note = e.note }))
      → (q : List Queued) → All E q → All F (moved ps q)
  moved_kept F ps each q all =
      kept_flat E F (λ e. moved_entry (slice_index_or ps e.place None) e)
      (λ e is. by e (slice_index_or ps e.place None) refl is) q all
    where
      by : (e : Queued) (p : Option ℕ) → slice_index_or ps e.place None ≡ p → E e
          → All F (moved_entry p e)
      by e None at is = All-nil F
      by e (Some k) at is =
          All-cons F (record { place = k; note = e.note }) [] (each e k at is) (All-nil F)

module _ (R : Registration → Type 0) (Q : ObjectName → List Queued → Type 0) where
  -- it holds of a registration and of the queue of its observer
  abbrev pub Fits : Seat → Type 0
  Fits s = R s.registration × Q s.registration.observer s.queue

  -- the queue of an observer is one of its registrations, or is empty
  pub queue_fits : (ss : List Seat) (o : ObjectName) → Q o [] → All Fits ss → Q o (queue_of ss o)
  queue_fits [] o none all = none
  queue_fits (s ∷ ss) o none all =
      cond_both (same_object s.registration.observer o) s.queue (queue_of ss o) (Q o)
      (λ same. subst (λ p. Q p s.queue) (same_is s.registration.observer o same)
      ((All-head Fits s ss all).1))
      (λ _. queue_fits ss o none (All-tail Fits s ss all))

  -- and may be another
  pub with_fits : (ss : List Seat) (o : ObjectName) (q : List Queued) → Q o q → All Fits ss
      → All Fits (with_queue ss o q)
  with_fits [] o q queue all = all
  with_fits (s ∷ ss) o q queue all =
      let first = All-head Fits s ss all in
      let rest = All-tail Fits s ss all in
      let p = s.registration.observer in
      cond_both (same_object p o) (seat_with s q ∷ ss) (s ∷ with_queue ss o q) (All Fits)
      (λ same. All-cons Fits (seat_with s q) ss
      (first.0, subst (λ x. Q x q) (sym (same_is p o same)) queue) rest)
      (λ _. All-cons Fits s (with_queue ss o q) first (with_fits ss o q queue rest))

  -- it holds of the registrations alone
  pub registrations_fit : (ss : List Seat) → All Fits ss → All R (registrations ss)
  registrations_fit ss all =
      All-map R (λ (s : Seat). s.registration) ss
      (All-weaker Fits (λ (s : Seat). R s.registration) (λ s is. is.0) ss all)

  -- and of the queues alone
  pub waiting_fit : (ss : List Seat) → All Fits ss
      → All (λ (w : Waiting). Q w.observer w.queue) (waiting ss)
  waiting_fit [] all = All-nil (λ (w : Waiting). Q w.observer w.queue)
  waiting_fit (s ∷ ss) all =
      let W = λ (w : Waiting). Q w.observer w.queue in
      let w : Waiting = record { observer = s.registration.observer; queue = s.queue } in
      let rest = waiting_fit ss (All-tail Fits s ss all) in
      cond_both (is_none s.queue) (waiting ss) (w ∷ waiting ss) (All W) (λ _. rest)
      (λ _. All-cons W w (waiting ss) ((All-head Fits s ss all).1) rest)

  -- it holds of what is left where it holds of the queues that are
  pub left_fit : (L : ObjectName → List Queued → Type 0) (out : Registration → Bool)
      (ps : List (Option ℕ)) → ((o : ObjectName) (q : List Queued) → Q o q → L o (moved ps q))
      → (ss : List Seat) → All Fits ss
      → All (λ (s : Seat). R s.registration × L s.registration.observer s.queue)
      (seats_left out ps ss)
  left_fit L out ps moves ss all =
      let G = λ (s : Seat). R s.registration × L s.registration.observer s.queue in
      kept_flat Fits G (seat_left out ps) (λ s is.
      let seat = seat_with s (moved ps s.queue) in
      cond_both (out s.registration) [] (seat ∷ []) (All G) (λ _. All-nil G)
      (λ _. All-cons G seat [] (is.0, moves s.registration.observer s.queue is.1) (All-nil G)))
      ss all
