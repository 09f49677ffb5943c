-- What is left once registrations of an observer are taken out.
use Rattle.std.specs.Prelude.{ℕ, ◌+◌, Bool, ◌&&◌, Option, Some, None, List, [], ◌∷◌, slice_index_or}
use Rattle.std.specs.{Prelude.if◌then◌else◌, List.flat_map}
use Rattle.do_base.specs.names.Names.{ObjectName}
use Rattle.do_center.specs.{Observers.same_object, Queues.{queue_of, with_queue}}
use Rattle.do_center.specs.{Registrations.fits_label, Seats.Core}
use Rattle.do_center.specs.declared.{registrations.Registration.Registration, queues.Queued.Queued}
use Rattle.do_center.specs.declared.seats.Seat.{Seat}

-- a registration is this observer's, and has this name and this object, where none stands for any
abbrev pub goes : ObjectName → Option (List ℕ) → Option (List ℕ) → Registration → Bool
goes o name about r =
    same_object r.observer o && (fits_label name r.name && fits_label about r.object)

-- the place of a registration that stays, behind as many
abbrev pub place_left : Bool → ℕ → Option ℕ
place_left out n = if out then None else Some n

-- as many, and one more that stays
abbrev pub count_left : Bool → ℕ → ℕ
count_left out n = if out then n else n + 1

-- what waits, at the place that its registration then has; nothing where that goes
abbrev pub moved_entry : Option ℕ → Queued → List Queued
moved_entry None e = []
moved_entry (Some k) e = record { place = k; note = e.note } ∷ []

-- what waits at registrations that stay
abbrev pub moved : List (Option ℕ) → List Queued → List Queued
moved ps q = flat_map (λ e. moved_entry (slice_index_or ps e.place None) e) q

module _ (out : Registration → Bool) where
  -- the place that each registration then has, unless it goes, behind as many that stay
  abbrev pub new_places : ℕ → List Seat → List (Option ℕ)
  new_places n [] = []
  new_places n (s ∷ ss) =
      place_left (out s.registration) n ∷ new_places (count_left (out s.registration) n) ss

  -- a registration that stays, with what waits at those that stay
  abbrev pub seat_left : List (Option ℕ) → Seat → List Seat
  seat_left ps s =
      if out s.registration then []
      else record { registration = s.registration; queue = moved ps s.queue } ∷ []

  -- the registrations that stay
  abbrev pub seats_left : List (Option ℕ) → List Seat → List Seat
  seats_left ps ss = flat_map (seat_left ps) ss

-- What is left of registrations, of which some go that are the observer's. What waits at the others
-- of the observer stays, at the first of them.
abbrev pub left_of : (Registration → Bool) → ObjectName → List Seat → List Seat
left_of out o ss =
    let ps = new_places out 0 ss in with_queue (seats_left out ps ss) o (moved ps (queue_of ss o))

-- the core without the registrations of an observer that have this name and this object
abbrev pub removed : Core → ObjectName → Option (List ℕ) → Option (List ℕ) → Core
removed c o name about = (left_of (goes o name about) o c.0, c.1)
