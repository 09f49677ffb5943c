-- Registrations with the queues of their observers, and observers that are suspended.
use Rattle.std.specs.Prelude.{Bool, true, false, not, ◌&&◌, ◌||◌, nat_le, Option, Some, None, List}
use Rattle.std.specs.{Prelude.{[], ◌∷◌, length, map, slice_get, if◌then◌else◌}, List.list_all}
use Rattle.do_base.specs.names.Names.{ObjectName}
use Rattle.do_center.specs.{Notes.is_note, Observers.{same_object, are_distinct}}
use Rattle.do_center.specs.Registrations.{is_registration}
use Rattle.do_center.specs.declared.{registrations.Registration.Registration, queues.Queued.Queued}
use Rattle.do_center.specs.declared.seats.Seat.{Seat}

-- a core: registrations with queues, the oldest first, and the suspended observers
abbrev pub Core : Type 0
Core = List Seat × List ObjectName

-- there is nothing
abbrev pub is_none : {A : Type 0} → List A → Bool
is_none [] = true
is_none (x ∷ xs) = false

-- the registrations alone
abbrev pub registrations : List Seat → List Registration
registrations ss = map (λ s. s.registration) ss

-- a registration is there and is this observer's
abbrev pub is_of : ObjectName → Option Registration → Bool
is_of o None = false
is_of o (Some r) = same_object r.observer o

-- what waits is a notification at a registration of the observer
abbrev pub is_queued : List Registration → ObjectName → Queued → Bool
is_queued rs o e = is_of o (slice_get rs e.place) && is_note e.note

-- a queue of an observer: at most 64 notifications
abbrev pub is_queue : List Registration → ObjectName → List Queued → Bool
is_queue rs o q = nat_le (length q) 64 && list_all (is_queued rs o) q

-- a registration with a queue of its observer
abbrev pub is_seat : List Registration → Seat → Bool
is_seat rs s = is_registration s.registration && is_queue rs s.registration.observer s.queue

-- there is no queue at a registration of this observer
abbrev pub has_none : ObjectName → Seat → Bool
has_none o s = not (same_object s.registration.observer o) || is_none s.queue

-- an observer's queue stands at the first of its registrations
abbrev pub are_apart : List Seat → Bool
are_apart [] = true
are_apart (s ∷ ss) = list_all (has_none s.registration.observer) ss && are_apart ss

-- the registrations of a core: at most 256
abbrev pub are_seats : List Seat → Bool
are_seats ss =
    nat_le (length ss) 256 && (list_all (is_seat (registrations ss)) ss && are_apart ss)

-- the suspended observers of a core: at most 256
abbrev pub are_suspended : List ObjectName → Bool
are_suspended os = nat_le (length os) 256 && are_distinct os

-- the suspended observers that a list is read as
abbrev pub read_suspended : List ObjectName → Option (List ObjectName)
read_suspended os = if are_suspended os then Some os else None

-- a core
abbrev pub is_core : Core → Bool
is_core c = are_seats c.0 && are_suspended c.1
