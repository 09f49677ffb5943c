-- The queues of observers, and the deliveries of what waits.
use Rattle.std.specs.Prelude.{ℕ, Bool, true, false, not, ◌&&◌, ◌==◌, nat_lt, Option, Some, None}
use Rattle.std.specs.Prelude.{List, [], ◌∷◌, ◌++◌, length, slice_get, remove, if◌then◌else◌}
use Rattle.std.specs.{List.{filter, flat_map}, Str.bytes_eq}
use Rattle.do_base.specs.names.Names.{ObjectName}
use Rattle.do_center.specs.{Observers.same_object, Registrations.delivered}
use Rattle.do_center.specs.declared.{notes.{Note.Note, Delivery.Delivery}, queues.Queued.Queued}
use Rattle.do_center.specs.declared.seats.Seat.{Seat}

-- the queue of an observer: what stands at its first registration
abbrev pub queue_of : List Seat → ObjectName → List Queued
queue_of [] o = []
queue_of (s ∷ ss) o =
    if same_object s.registration.observer o then s.queue else queue_of ss o

-- a registration, with this queue
abbrev pub seat_with : Seat → List Queued → Seat
seat_with s q = record { registration = s.registration; queue = q }

-- the same registrations, where this is the queue of the observer
abbrev pub with_queue : List Seat → ObjectName → List Queued → List Seat
with_queue [] o q = []
with_queue (s ∷ ss) o q =
    if same_object s.registration.observer o then seat_with s q ∷ ss else s ∷ with_queue ss o q

-- a queue with room: of 64 notifications the oldest goes
abbrev pub with_room : List Queued → List Queued
with_room q = if nat_lt (length q) 64 then q else remove q 0

-- a queue with one notification more, the last
abbrev pub enqueued : List Queued → Queued → List Queued
enqueued q e = with_room q ++ e ∷ []

-- both are about the same object, or about none
abbrev pub same_label : Option (List ℕ) → Option (List ℕ) → Bool
same_label None None = true
same_label (Some s) (Some t) = bytes_eq s t
same_label _ _ = false

-- both came by one registration, and have one name and one object
abbrev pub same_kind : Queued → Queued → Bool
same_kind a b =
    (a.place == b.place)
    && (bytes_eq a.note.name b.note.name && same_label a.note.object b.note.object)

-- a queue without those that a new one stands for
abbrev pub coalesced : List Queued → Queued → List Queued
coalesced q e = filter (λ x. not (same_kind x e)) q

-- a notification on its way to the observer of a registration, if there is one
abbrev pub delivered_at : Note → Option Seat → List Delivery
delivered_at note None = []
delivered_at note (Some s) = delivered s.registration note ∷ []

-- what waits, on its way to the observer of its registration
abbrev pub delivery_at : List Seat → Queued → List Delivery
delivery_at ss e = delivered_at e.note (slice_get ss e.place)

-- all of these, on their way
abbrev pub deliveries : List Seat → List Queued → List Delivery
deliveries ss q = flat_map (delivery_at ss) q
