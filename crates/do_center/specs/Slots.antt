-- A core as slots.
use Rattle.std.specs.Prelude.{ℕ, ℤ, pos, ◌&&◌, nat_lt, Option, Some, None, List as Listed, [], ◌∷◌}
use Rattle.std.specs.{Prelude.{map, if◌then◌else◌}, Cmp.Lexicographic.pointwise}
use Rattle.do_base.specs.{names.Names.ObjectName, values.Equal.value_eq}
use Rattle.do_base.specs.values.Kinds.{number, object, items}
use Rattle.do_base.specs.declared.values.value.Value.{Value, List, TheVariants.{Num, Text, Obj}}
use Rattle.do_grammar.specs.Words.{◌>>?◌}
use Rattle.do_native_acts.specs.Rows.{rows_in, listed}
use Rattle.do_center.specs.{Notes.{label_value, note_in}, Observers.{same_object, without_first}}
use Rattle.do_center.specs.Registrations.{registration_in, registration_value}
use Rattle.do_center.specs.Seats.{Core, is_core, is_none, registrations}
use Rattle.do_center.specs.declared.{registrations.Registration.Registration, queues.Queued.Queued}
use Rattle.do_center.specs.declared.{slots.Waiting.Waiting, seats.Seat.Seat}

-- what waits, as a value
abbrev pub queued_value : Queued → Value
queued_value e =
    List (Num (pos e.place) ∷ Text e.note.name ∷ label_value e.note.object ∷ e.note.info ∷ [])

-- an observer with its queue, as a value
abbrev pub waiting_value : Waiting → Value
waiting_value w = List (Obj w.observer ∷ listed (map queued_value w.queue) ∷ [])

-- the observers whose queue is not empty, by their first registrations
abbrev pub waiting : Listed Seat → Listed Waiting
waiting [] = []
waiting (s ∷ ss) =
    if is_none s.queue then waiting ss
    else record { observer = s.registration.observer; queue = s.queue } ∷ waiting ss

-- the slots of a core
abbrev pub to_slots : Core → Listed Value
to_slots c =
    listed (map registration_value (registrations c.0)) ∷ listed (map Obj c.1)
    ∷ listed (map waiting_value (waiting c.0)) ∷ []

-- a number from 0 that has 32 bits
abbrev pub place_number : ℤ → Option ℕ
place_number (pos n) = if nat_lt n 4294967296 then Some n else None
place_number _ = None

-- the place that a value is
abbrev pub place_in : Value → Option ℕ
place_in v = number v >>? place_number

-- what four values say that waits
abbrev pub queued_of : Listed Value → Option Queued
queued_of (place ∷ name ∷ about ∷ info ∷ []) =
    place_in place >>? λ k. note_in name about info >>? λ n. Some (record { place = k; note = n })
queued_of _ = None

-- what a value says that waits
abbrev pub queued_in : Value → Option Queued
queued_in v = items v >>? queued_of

-- the observer with its queue that two values are
abbrev pub waiting_of : Listed Value → Option Waiting
waiting_of (observer ∷ entries ∷ []) =
    object observer >>? λ o. rows_in queued_in entries >>? λ q.
    Some (record { observer = o; queue = q })
waiting_of _ = None

-- the observer with its queue that a value is
abbrev pub waiting_in : Value → Option Waiting
waiting_in v = items v >>? waiting_of

-- the queue of an observer, if it has one
abbrev pub queue_among : Listed Waiting → ObjectName → Listed Queued
queue_among [] o = []
queue_among (w ∷ ws) o = if same_object w.observer o then w.queue else queue_among ws o

-- each queue at the first registration of its observer
abbrev pub seated : Listed Registration → Listed Waiting → Listed Seat
seated [] ws = []
seated (r ∷ rs) ws =
    record { registration = r; queue = queue_among ws r.observer }
    ∷ seated rs (without_first (λ w. w.observer) ws r.observer)

-- a core, where it is one and has these slots
abbrev pub of_core : Listed Value → Core → Option Core
of_core slots c = if is_core c && pointwise value_eq (to_slots c) slots then Some c else None

-- the core whose slots these are
abbrev pub from_slots : Listed Value → Option Core
from_slots (a ∷ b ∷ c ∷ []) =
    rows_in registration_in a >>? λ rs. rows_in object b >>? λ os. rows_in waiting_in c >>? λ ws.
    of_core (a ∷ b ∷ c ∷ []) (seated rs ws, os)
from_slots _ = None
