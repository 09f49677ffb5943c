-- What the calls made so far leave, and what they tell of registrations and of who is suspended.
use Rattle.std.specs.Prelude.{Bool, true, false, not, ◌&&◌, ◌||◌, nat_lt, List, [], ◌∷◌, ◌++◌}
use Rattle.std.specs.{Prelude.{length, if◌then◌else◌}, List.filter}
use Rattle.do_base.specs.names.Names.{ObjectName}
use Rattle.do_native_acts.specs.History.{after_calls}
use Rattle.do_center.specs.{Calls.does, Observers.same_object, Removing.goes, Seats.Core}
use Rattle.do_center.specs.declared.calls.Call.{Call, TheVariants.{Add, Remove, Suspend}}
use Rattle.do_center.specs.declared.registrations.Registration.{Registration}

-- the core after these calls, of which the first made stands last
abbrev pub after : List Call → Core
after h = after_calls ([], []) does h

-- with one more, where there is room
abbrev pub with_last : List Registration → Registration → List Registration
with_last rs r = if nat_lt (length rs) 256 then rs ++ r ∷ [] else rs

-- the registrations that were added and not removed since, the oldest first
abbrev pub registered : List Call → List Registration
registered [] = []
registered (Add r ∷ earlier) = with_last (registered earlier) r
registered (Remove o name about ∷ earlier) =
    filter (λ r. not (goes o name about r)) (registered earlier)
registered (_ ∷ earlier) = registered earlier

-- An observer is suspended where its last `Suspend` that was accepted was on; one is accepted that
-- finds fewer than 256 suspended observers, or the observer among them.
abbrev pub is_suspended : List Call → ObjectName → Bool
is_suspended [] o = false
is_suspended (Suspend other true ∷ earlier) o =
    is_suspended earlier o
    || (same_object o other && nat_lt (length (after earlier).1) 256)
is_suspended (Suspend other false ∷ earlier) o =
    not (same_object o other) && is_suspended earlier o
is_suspended (_ ∷ earlier) o = is_suspended earlier o
