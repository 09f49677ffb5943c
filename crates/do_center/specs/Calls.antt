-- The calls of a core, and what each does.
use Rattle.std.specs.Prelude.{◌≡◌, ℕ, Bool, true, false, nat_lt, IsTrue, Option, Some, None, List}
use Rattle.std.specs.{Prelude.{[], ◌∷◌, ◌++◌, length, if◌then◌else◌}, Option.option_map}
use Rattle.do_base.specs.names.Names.{ObjectName}
use Rattle.do_native_acts.specs.declared.fault.CoreFault.{CoreFault, TheVariants.{Full, Memory}}
use Rattle.do_center.specs.{Notes.is_note, Observers.{has_object, without_object}, Posting.posted}
use Rattle.do_center.specs.Queues.{deliveries, queue_of, with_queue}
use Rattle.do_center.specs.{Registrations.is_registration, Removing.removed, Seats.Core}
use Rattle.do_center.specs.declared.calls.Call.{Call, TheVariants.{Add, Remove, Suspend, Post}}
use Rattle.do_center.specs.declared.notes.Delivery.{Delivery}
use Rattle.do_center.specs.declared.registrations.Registration.{Registration}

-- the core with one registration more, the last; none where there are 256
abbrev pub added : Core → Registration → Option Core
added c r =
    if nat_lt (length c.0) 256 then Some (c.0 ++ record { registration = r; queue = [] } ∷ [], c.1)
    else None

-- the suspended observers with one more, the last; none where there are 256
abbrev pub with_suspended : List ObjectName → ObjectName → Option (List ObjectName)
with_suspended os o =
    if has_object os o then Some os else
    if nat_lt (length os) 256 then Some (os ++ o ∷ []) else None

-- The core where an observer is suspended, or is not and what waited for it is on its way. None
-- where there is no room.
abbrev pub suspended : Core → ObjectName → Bool → Option (Core × List Delivery)
suspended c o true = option_map (λ os. ((c.0, os), [])) (with_suspended c.1 o)
suspended c o false =
    Some ((with_queue c.0 o [], without_object c.1 o), deliveries c.0 (queue_of c.0 o))

-- what a call needs: a registration or a notification within the limits
abbrev pub IsCall : Call → Type 0
IsCall (Add r) = IsTrue (is_registration r)
IsCall (Post note immediate) = IsTrue (is_note note)
IsCall _ = Unit {0}

-- what a call leaves, and its deliveries; none where there is no room
abbrev pub does : Core → Call → Option (Core × List Delivery)
does c (Add r) = option_map (λ d. (d, [])) (added c r)
does c (Remove o name about) = Some (removed c o name about, [])
does c (Suspend o on) = suspended c o on
does c (Post note immediate) = posted c note immediate

-- A refusal tells the limit only where what the call leaves has no room. Memory may run out before
-- that is known.
abbrev pub Refused : {A : Type 0} → ℕ → Option A → CoreFault → Type 0
Refused limit None (Full n) = n ≡ limit
Refused limit (Some done) (Full n) = ⊥
Refused limit left Memory = Unit {0}

-- the limit that a call is refused at
abbrev pub limit_of : Call → ℕ
limit_of (Post note immediate) = 1024
limit_of _ = 256
