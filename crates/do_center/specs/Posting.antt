-- What a post leaves, and what is due at once.
use Rattle.std.specs.Prelude.{ℕ, zero, suc, Bool, nat_le, Option, Some, None, List, [], ◌∷◌, ◌++◌}
use Rattle.std.specs.Prelude.{length, slice_get, if◌then◌else◌}
use Rattle.do_base.specs.names.Names.{ObjectName}
use Rattle.do_center.specs.Observers.{has_object}
use Rattle.do_center.specs.Queues.{coalesced, deliveries, enqueued, queue_of, with_queue}
use Rattle.do_center.specs.{Registrations.matches, Seats.Core, declared.notes.Delivery.Delivery}
use Rattle.do_center.specs.declared.{notes.Note.Note, posting.Posting.Posting, queues.Queued.Queued}
use Rattle.do_center.specs.declared.{registrations.Registration.Registration, seats.Seat.Seat}
use Rattle.do_center.specs.declared.suspension.Suspension.{Suspension, TheVariants.{Drop, Coalesce}}
use Rattle.do_center.specs.declared.suspension.Suspension.TheVariants.{Hold, DeliverImmediately}

-- one notification more is due
abbrev pub due : Posting → Queued → Posting
due p e = record { seats = p.seats; due = p.due ++ e ∷ [] }

-- this waits for the observer now
abbrev pub waits : Posting → ObjectName → List Queued → Posting
waits p o q = record { seats = with_queue p.seats o q; due = p.due }

-- all that waits for the observer is due, and behind it this
abbrev pub flushed : Posting → ObjectName → Queued → Posting
flushed p o e =
    record { seats = with_queue p.seats o []; due = p.due ++ (queue_of p.seats o ++ e ∷ []) }

-- what the behaviour says of a notification for an observer that is suspended
abbrev pub held : Posting → ObjectName → Suspension → Queued → Posting
held p o Drop e = p
held p o Coalesce e = waits p o (enqueued (coalesced (queue_of p.seats o) e) e)
held p o Hold e = waits p o (enqueued (queue_of p.seats o) e)
held p o DeliverImmediately e = flushed p o e

module _ (note : Note) (immediate : Bool) (suspended : List ObjectName) where
  -- a notification that a registration is for
  abbrev pub arrives : Posting → Registration → Queued → Posting
  arrives p r e =
      if has_object suspended r.observer
      then held p r.observer (if immediate then DeliverImmediately else r.behaviour) e
      else due p e

  -- the notification comes to the registration at a place
  abbrev pub comes_to : Posting → ℕ → Option Seat → Posting
  comes_to p k None = p
  comes_to p k (Some s) =
      if matches s.registration note
      then arrives p s.registration (record { place = k; note = note }) else p

  -- it came to the first registrations, as many as told, one after the other
  abbrev pub came : List Seat → ℕ → Posting
  came ss zero = record { seats = ss; due = [] }
  came ss (suc k) = comes_to (came ss k) k (slice_get (came ss k).seats k)

  -- it came to all
  abbrev pub came_to_all : List Seat → Posting
  came_to_all ss = came ss (length ss)

-- the core after a post, and its deliveries; none where they are more than 1,024
abbrev pub posted_of : Core → Posting → Option (Core × List Delivery)
posted_of c p =
    if nat_le (length p.due) 1024 then Some ((p.seats, c.1), deliveries c.0 p.due) else None

-- the same, of a notification, and of whether it is to be delivered immediately
abbrev pub posted : Core → Note → Bool → Option (Core × List Delivery)
posted c note immediate = posted_of c (came_to_all note immediate c.1 c.0)
