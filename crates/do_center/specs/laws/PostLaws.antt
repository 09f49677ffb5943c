-- What holds of registrations and their queues holds after a post, and so does what holds of
-- notifications of those that are due.
use Rattle.std.proofs.Common.{◌≡◌, ℕ, zero, suc, Bool, List, [], ◌∷◌, ◌++◌, Option, Some, None}
use Rattle.std.{proofs.Common.refl, specs.{Prelude.{if◌then◌else◌, slice_get}, List.All}}
use Rattle.std.proofs.lemmas.List.Elements.{All-nil, All-append, All-push}
use Rattle.do_base.specs.names.Names.{ObjectName}
use Rattle.do_native_acts.specs.laws.FoundLaws.{of_chosen}
use Rattle.do_center.specs.{Observers.has_object, Posting.{arrives, came, comes_to, due, held}}
use Rattle.do_center.specs.Queues.{coalesced, enqueued, queue_of, with_queue}
use Rattle.do_center.specs.{Registrations.matches, declared.notes.Note.Note}
use Rattle.do_center.specs.declared.{posting.Posting.Posting, queues.Queued.Queued}
use Rattle.do_center.specs.declared.{registrations.Registration.Registration, seats.Seat.Seat}
use Rattle.do_center.specs.declared.suspension.Suspension.{Suspension, TheVariants.{Drop, Coalesce}}
use Rattle.do_center.specs.declared.suspension.Suspension.TheVariants.{Hold, DeliverImmediately}

-- What holds of registrations with queues, of the queue of an observer, of a notification that
-- comes to it and of one that is due, is such that a post keeps it.
pub record IsPosted (P : List Seat → Type 0) (Q : ObjectName → List Queued → Type 0)
    (N : ObjectName → Queued → Type 0) (D : Queued → Type 0) : Type 0 where
  pub queue : (ss : List Seat) (o : ObjectName) → P ss → Q o (queue_of ss o)
  pub none : (o : ObjectName) → Q o []
  pub replaced : (ss : List Seat) (o : ObjectName) (q : List Queued) → P ss → Q o q
      → P (with_queue ss o q)
  pub pushed : (o : ObjectName) (q : List Queued) (e : Queued) → Q o q → N o e
      → Q o (enqueued q e)
  pub reduced : (o : ObjectName) (q : List Queued) (e : Queued) → Q o q → Q o (coalesced q e)
  pub due : (o : ObjectName) (q : List Queued) → Q o q → All D q
  pub new : (o : ObjectName) (e : Queued) → N o e → D e

-- so they hold of a post under way
pub record IsKept (P : List Seat → Type 0) (D : Queued → Type 0) (p : Posting) : Type 0 where
  pub seats : P p.seats
  pub due : All D p.due

module _ {P : List Seat → Type 0} {Q : ObjectName → List Queued → Type 0}
    {N : ObjectName → Queued → Type 0} {D : Queued → Type 0} (laws : IsPosted P Q N D) where
  -- they hold of a post under way
  abbrev Kept : Posting → Type 0
  Kept p = IsKept P D p

  -- what waits for an observer may wait on
  waits_kept : (p : Posting) (o : ObjectName) (q : List Queued) → Kept p → Q o q
      → Kept (record { seats = with_queue p.seats o q; due = p.due })
  waits_kept p o q kept queue =
      record { seats = laws.replaced p.seats o q kept.seats queue; due = kept.due }

  -- what the behaviour says is done
  held_kept : (p : Posting) (o : ObjectName) (b : Suspension) (e : Queued) → Kept p → N o e
      → Kept (held p o b e)
  held_kept p o Drop e kept new = kept
  held_kept p o Coalesce e kept new =
      let q = queue_of p.seats o in
      waits_kept p o (enqueued (coalesced q e) e) kept
      (laws.pushed o (coalesced q e) e
      (laws.reduced o q e (laws.queue p.seats o kept.seats)) new)
  held_kept p o Hold e kept new =
      let q = queue_of p.seats o in
      waits_kept p o (enqueued q e) kept
      (laws.pushed o q e (laws.queue p.seats o kept.seats) new)
  held_kept p o DeliverImmediately e kept new =
      let q = queue_of p.seats o in
      record {
        seats = laws.replaced p.seats o [] kept.seats (laws.none o);
        due =
            All-append D p.due (q ++ e ∷ []) kept.due
            (All-push D q e (laws.due o q (laws.queue p.seats o kept.seats)) (laws.new o e new));
      }

  module _ (note : Note) (immediate : Bool) (suspended : List ObjectName)
      (comes : (ss : List Seat) (k : ℕ) (s : Seat) → P ss → slice_get ss k ≡ Some s
      → N s.registration.observer (record { place = k; note = note })) where
    -- the notification arrives
    arrives_kept : (p : Posting) (r : Registration) (e : Queued) → Kept p → N r.observer e
        → Kept (arrives note immediate suspended p r e)
    arrives_kept p r e kept new =
        let behaviour = if immediate then DeliverImmediately else r.behaviour in
        of_chosen Kept (has_object suspended r.observer) (held p r.observer behaviour e)
        (due p e) (held_kept p r.observer behaviour e kept new)
        (record {
          seats = kept.seats;
          due = All-push D p.due e kept.due (laws.new r.observer e new);
        })

    -- it comes to a registration
    comes_kept : (p : Posting) (k : ℕ) (o : Option Seat) → slice_get p.seats k ≡ o → Kept p
        → Kept (comes_to note immediate suspended p k o)
    comes_kept p k None at kept = kept
    comes_kept p k (Some s) at kept =
        let e : Queued = record { place = k; note = note } in
        of_chosen Kept (matches s.registration note)
        (arrives note immediate suspended p s.registration e) p
        (arrives_kept p s.registration e kept (comes p.seats k s kept.seats at)) kept

    -- and to the first ones
    pub came_kept : (ss : List Seat) (k : ℕ) → P ss → Kept (came note immediate suspended ss k)
    came_kept ss zero is = record { seats = is; due = All-nil D }
    came_kept ss (suc k) is =
        let p = came note immediate suspended ss k in
        comes_kept p k (slice_get p.seats k) refl (came_kept ss k is)
