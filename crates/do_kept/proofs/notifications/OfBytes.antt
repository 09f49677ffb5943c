-- Registrations, notifications and queues whose texts are of bytes.
use Rattle.std.proofs.Common.{◌≡◌, ℕ, true, List as Listed}
use Rattle.std.specs.{Prelude.Option, List.All, Option.IfSome}
use Rattle.do_base.specs.values.Kinds.{object}
use Rattle.do_center.specs.{Seats.{Core, are_seats}, Slots.waiting_value}
use Rattle.do_center.specs.declared.{notes.{Delivery.Delivery, Note.Note}, queues.Queued.Queued}
use Rattle.do_center.specs.declared.{registrations.Registration.Registration, seats.Seat.Seat}
use Rattle.do_center.specs.laws.QueueLaws.{Fits}
use Rattle.do_kept.proofs.{Limited.HasAtoms, ReadValues.{IsOfBytes, Taken}}

-- no text, or one of bytes
abbrev pub IsLabel : Option (Listed ℕ) → Type 0
IsLabel l = IfSome l IsOfBytes

-- a registration of such texts
abbrev pub IsRegistered : Registration → Type 0
IsRegistered r = IsOfBytes r.selector × (IsLabel r.name × IsLabel r.object)

-- a notification of such texts, whose information has atoms
abbrev pub IsPosted : Note → Type 0
IsPosted n = IsOfBytes n.name × (IsLabel n.object × HasAtoms n.info)

-- such a notification waits
abbrev pub IsEntry : Queued → Type 0
IsEntry e = IsPosted e.note

-- each of these does
abbrev pub AreEntries : Listed Queued → Type 0
AreEntries q = All IsEntry q

-- such a registration with such a queue
abbrev pub IsSeat : Seat → Type 0
IsSeat s = Fits IsRegistered (λ o q. AreEntries q) s

-- registrations that keep the limits, with their queues, and each is such a one
abbrev pub AreSeats : Listed Seat → Type 0
AreSeats ss = (are_seats ss ≡ true) × All IsSeat ss

-- a core of such registrations
abbrev pub IsCoreOf : Core → Type 0
IsCoreOf c = AreSeats c.0

-- an observer with its queue
abbrev pub Waiting : Type 0
Waiting = Taken waiting_value

-- an observer with such a queue
abbrev pub IsWaiting : Waiting → Type 0
IsWaiting w = AreEntries w.queue

-- such a notification on its way
abbrev pub IsDelivery : Delivery → Type 0
IsDelivery d = IsOfBytes d.selector × IsPosted d.note
