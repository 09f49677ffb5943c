-- What a call leaves and delivers may be named, where the core and the call may be.
use Rattle.do_center.specs.declared.methods.Method.TheVariants as method
use Rattle.std.proofs.Common.{ℕ, Bool, true, false, List as Listed, [], ◌∷◌, ◌++◌, Option, Some}
use Rattle.std.proofs.Common.{None, sym, subst, length}
use Rattle.std.specs.{Prelude.{nat_le, nat_lt, slice_get}, List.All, Option.IfSome}
use Rattle.std.proofs.lemmas.{List.Elements.{All-nil, All-cons, All-push}, Map.Views.All-remove_key}
use Rattle.do_base.specs.{names.Names.ObjectName, values.Kinds.object}
use Rattle.do_base.specs.declared.values.value.Value.{Value}
use Rattle.do_grammar.specs.Words.{◌>>?◌}
use Rattle.do_behave.specs.{Steps.local, declared.invocation.Invocation.Invocation}
use Rattle.do_native_acts.specs.laws.FoundLaws.{if_chosen, if_found, if_mapped, if_room}
use Rattle.do_native_acts.specs.laws.{KeptLaws.{kept_at, kept_flat}, KindLaws.object_read}
use Rattle.do_native_acts.specs.laws.NamedValues.{Named, NamedObject, local_found, local_object}
use Rattle.do_center.specs.{Acts.{call_in, truth_in}, Calls.{added, does, with_suspended}}
use Rattle.do_center.specs.{Notes.{label_in, note_in}, Observers.{has_object, same_object}}
use Rattle.do_center.specs.Posting.{came_to_all, posted_of}
use Rattle.do_center.specs.Queues.{deliveries, delivered_at, delivery_at, queue_of, with_queue}
use Rattle.do_center.specs.Registrations.{delivered, registration_from}
use Rattle.do_center.specs.{Removing.{goes, left_of, moved, new_places, seats_left}, Seats.Core}
use Rattle.do_center.specs.declared.calls.Call.{Call, TheVariants.{Add, Remove, Suspend, Post}}
use Rattle.do_center.specs.declared.{methods.Method.Method, notes.{Delivery.Delivery, Note.Note}}
use Rattle.do_center.specs.declared.{posting.Posting.Posting, queues.Queued.Queued}
use Rattle.do_center.specs.declared.{registrations.Registration.Registration, seats.Seat.Seat}
use Rattle.do_center.specs.laws.CallsRead.{note_read, registration_read}
use Rattle.do_center.specs.laws.NamedParts.{NamedCore, NamedDelivery, NamedEntry, NamedQueue}
use Rattle.do_center.specs.laws.NamedParts.{NamedRegistration, NamedSeat, NamedSeats}
use Rattle.do_center.specs.laws.PostLaws.{IsKept, IsPosted, came_kept}
use Rattle.do_center.specs.laws.QueueLaws.{coalesced_kept, enqueued_kept, left_fit, moved_kept}
use Rattle.do_center.specs.laws.QueueLaws.{queue_fits, with_fits}

module _ (inv : Invocation) (slots : Listed Value) where
  -- an object that may be named, here
  abbrev IsShown : ObjectName → Type 0
  IsShown o = NamedObject inv slots o

  -- what waits
  abbrev IsEntry : Queued → Type 0
  IsEntry e = NamedEntry inv slots e

  -- a queue
  abbrev AreEntries : Listed Queued → Type 0
  AreEntries q = NamedQueue inv slots q

  -- the registration of one that may be named
  abbrev IsRegistration : Registration → Type 0
  IsRegistration r = NamedRegistration inv slots r

  -- a registration with its queue
  abbrev IsSeat : Seat → Type 0
  IsSeat s = NamedSeat inv slots s

  -- registrations
  abbrev AreSeats : Listed Seat → Type 0
  AreSeats ss = NamedSeats inv slots ss

  -- a delivery
  abbrev IsDelivery : Delivery → Type 0
  IsDelivery d = NamedDelivery inv slots d

  -- the queue of an observer may be named
  queue_named : (ss : Listed Seat) (o : ObjectName) → AreSeats ss → AreEntries (queue_of ss o)
  queue_named ss o all =
      queue_fits IsRegistration (λ p q. AreEntries q) ss o (All-nil IsEntry) all

  -- and it may get another one
  with_named : (ss : Listed Seat) (o : ObjectName) (q : Listed Queued) → AreSeats ss → AreEntries q
      → AreSeats (with_queue ss o q)
  with_named ss o q all queue =
      with_fits IsRegistration (λ p r. AreEntries r) ss o q queue all

  -- a post keeps what may be named
  post_named : IsPosted AreSeats (λ o q. AreEntries q) (λ o e. IsEntry e) IsEntry
  post_named = record {
    queue = queue_named;
    none = λ o. All-nil IsEntry;
    replaced = with_named;
    pushed = λ o q e all new. enqueued_kept IsEntry q e all new;
    reduced = λ o q e all. coalesced_kept IsEntry q e all;
    due = λ o q all. all;
    new = λ o e new. new;
  }

  -- a delivery may be named
  delivered_named : (note : Note) (o : Option Seat) → Named inv slots note.info → IfSome o IsSeat
      → All IsDelivery (delivered_at note o)
  delivered_named note None informed seat = All-nil IsDelivery
  delivered_named note (Some s) informed seat =
      All-cons IsDelivery (delivered s.registration note) []
      (record { observer = seat.0; info = informed }) (All-nil IsDelivery)

  -- and all may be
  deliveries_named : (ss : Listed Seat) (q : Listed Queued) → AreSeats ss → AreEntries q
      → All IsDelivery (deliveries ss q)
  deliveries_named ss q seats all =
      kept_flat IsEntry IsDelivery (delivery_at ss)
      (λ e named. delivered_named e.note (slice_get ss e.place) named
      (kept_at IsSeat ss e.place seats)) q all

  -- what waits at registrations that stay
  moved_named : (ps : Listed (Option ℕ)) (q : Listed Queued) → AreEntries q
      → AreEntries (moved ps q)
  moved_named ps q all = moved_kept IsEntry IsEntry ps (λ e k at named. named) q all

  -- what is left once some are gone
  left_named : (out : Registration → Bool) (o : ObjectName) (ss : Listed Seat) → AreSeats ss
      → AreSeats (left_of out o ss)
  left_named out o ss all =
      let ps = new_places out 0 ss in
      with_named (seats_left out ps ss) o (moved ps (queue_of ss o))
      (left_fit IsRegistration (λ p q. AreEntries q) (λ p q. AreEntries q) out ps
      (λ p q named. moved_named ps q named) ss all)
      (moved_named ps (queue_of ss o) (queue_named ss o all))

  -- the object or the information of a call may be named
  abbrev pub NamedCall : Call → Type 0
  NamedCall (Add r) = IsShown r.observer
  NamedCall (Remove o name about) = Unit {0}
  NamedCall (Suspend o on) = IsShown o
  NamedCall (Post note immediate) = Named inv slots note.info

  -- what a call leaves and delivers may be named
  abbrev pub NamedDone : Core × Listed Delivery → Type 0
  NamedDone done = NamedCore inv slots done.0 × All IsDelivery done.1

  -- a registration that is added
  added_named : (c : Core) (r : Registration) → NamedCore inv slots c → IsShown r.observer
      → IfSome (added c r) (λ (d : Core). NamedDone (d, []))
  added_named c r named observer =
      let seat : Seat = record { registration = r; queue = [] } in
      if_room (λ (d : Core). NamedDone (d, [])) (nat_lt (length c.0) 256) (c.0 ++ seat ∷ [], c.1) (
        record {
          seats =
              All-push IsSeat c.0 seat named.seats
              (observer, All-nil IsEntry);
          suspended = named.suspended;
        },
        All-nil IsDelivery,
      )

  -- with these observers suspended, and no delivery, all may be named
  abbrev AreSuspended : Core → Listed ObjectName → Type 0
  AreSuspended c os = NamedDone ((c.0, os), [])

  -- so it is of observers that may be named
  with_these : (c : Core) (os : Listed ObjectName) → NamedCore inv slots c → All IsShown os
      → AreSuspended c os
  with_these c os named all =
      (record { seats = named.seats; suspended = all }, All-nil IsDelivery)

  -- an observer that is suspended
  suspended_named : (c : Core) (o : ObjectName) → NamedCore inv slots c → IsShown o
      → IfSome (with_suspended c.1 o) (AreSuspended c)
  suspended_named c o named one =
      if_chosen (AreSuspended c) (has_object c.1 o) (Some c.1) _
      (with_these c c.1 named named.suspended)
      (if_room (AreSuspended c) (nat_lt (length c.1) 256) (c.1 ++ o ∷ [])
      (with_these c (c.1 ++ o ∷ []) named (All-push IsShown c.1 o named.suspended one)))

  -- a post
  posted_named : (c : Core) (p : Posting) → NamedCore inv slots c → IsKept AreSeats IsEntry p
      → IfSome (posted_of c p) NamedDone
  posted_named c p named posting =
      if_room NamedDone (nat_le (length p.due) 1024) ((p.seats, c.1), deliveries c.0 p.due) (
        record { seats = posting.seats; suspended = named.suspended },
        deliveries_named c.0 p.due named.seats posting.due,
      )

  -- what each call leaves and delivers may be named, where the core and the call may be
  pub done_named : (c : Core) (call : Call) → NamedCore inv slots c → NamedCall call
      → IfSome (does c call) NamedDone
  done_named c (Add r) named given =
      if_mapped NamedDone (λ (d : Core). (d, [])) (added c r) (added_named c r named given)
  done_named c (Remove o name about) named given = (
    record {
      seats = left_named (goes o name about) o c.0 named.seats;
      suspended = named.suspended;
    },
    All-nil IsDelivery,
  )
  done_named c (Suspend o true) named given =
      if_mapped NamedDone (λ (os : Listed ObjectName). ((c.0, os), [])) (with_suspended c.1 o)
      (suspended_named c o named given)
  done_named c (Suspend o false) named given = (
    record {
      seats = with_named c.0 o [] named.seats (All-nil IsEntry);
      suspended = All-remove_key (same_object o) IsShown c.1 named.suspended;
    },
    deliveries_named c.0 (queue_of c.0 o) named.seats (queue_named c.0 o named.seats),
  )
  done_named c (Post note immediate) named given =
      posted_named c (came_to_all note immediate c.1 c.0) named
      (came_kept post_named note immediate c.1 (λ ss k s all at. given) c.0 (length c.0)
      named.seats)

  -- the object or the information of a call that is read may be named
  pub call_named : (m : Method) → IfSome (call_in m inv) NamedCall
  call_named method.Add =
      if_found NamedCall (local inv 0) _ (λ o here. if_found NamedCall (local inv 1) _ (λ s _.
      if_found NamedCall (local inv 2) _ (λ n _. if_found NamedCall (local inv 3) _ (λ a _.
      if_found NamedCall (local inv 4) _ (λ b _.
      if_found NamedCall (registration_from o s n a b) (λ r. Some (Add r)) (λ r is.
      subst (Named inv slots)
      (sym (object_read o r.observer ((registration_read o s n a b r is).0)))
      (local_found inv slots 0 o here)))))))
  call_named method.Remove =
      if_found NamedCall (local inv 0 >>? object) _ (λ o _.
      if_found NamedCall (local inv 1 >>? label_in) _ (λ n _.
      if_found NamedCall (local inv 2 >>? label_in) (λ a. Some (Remove o n a)) (λ a _. tt)))
  call_named method.Suspend =
      if_found NamedCall (local inv 0 >>? truth_in) _ (λ on _.
      if_found NamedCall (local inv 1 >>? object) (λ o. Some (Suspend o on))
      (local_object inv slots 1))
  call_named method.Post =
      if_found NamedCall (local inv 0) _ (λ n _. if_found NamedCall (local inv 1) _ (λ a _.
      if_found NamedCall (local inv 2) _ (λ i here.
      if_found NamedCall (local inv 3 >>? truth_in) _ (λ immediate _.
      if_found NamedCall (note_in n a i) (λ note. Some (Post note immediate)) (λ note is.
      subst (Named inv slots) ((note_read n a i note is).0) (local_found inv slots 2 i here))))))
