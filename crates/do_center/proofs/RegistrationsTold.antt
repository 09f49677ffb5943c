-- The registrations that the calls leave are those that they tell.
use Rattle.std.proofs.Common.{◌≡◌, ℕ, Bool, true, false, List, [], ◌∷◌, ◌++◌, length, Option, Some}
use Rattle.std.proofs.Common.{None, refl, sym, ◌∙◌, ap, nat_lt, nat_le}
use Rattle.std.specs.{Prelude.{if◌then◌else◌, not}, List.filter, Option.option_map}
use Rattle.std.proofs.lemmas.List.{length-map, map-append}
use Rattle.do_base.specs.names.Names.{ObjectName}
use Rattle.do_native_acts.specs.{History.left, laws.KeptLaws.each_holds}
use Rattle.do_center.specs.{Calls.{added, suspended, with_suspended}, History.{after, registered}}
use Rattle.do_center.specs.{History.with_last, Posting.{came_to_all, posted_of}, Queues.deliveries}
use Rattle.do_center.specs.{Queues.queue_of, Removing.{goes, moved, new_places, seats_left}}
use Rattle.do_center.specs.{Seats.{Core, registrations}, declared.calls.Call.Call}
use Rattle.do_center.specs.declared.calls.Call.TheVariants.{Add, Remove, Suspend, Post}
use Rattle.do_center.specs.declared.{notes.Delivery.Delivery, posting.Posting.Posting}
use Rattle.do_center.specs.declared.{queues.Queued.Queued, registrations.Registration.Registration}
use Rattle.do_center.specs.{declared.seats.Seat.Seat, laws.PostLaws.{IsPosted, came_kept}}
use Rattle.do_center.proofs.{CoreKept.fresh, SeatsKept.with_registrations}

-- each step of a post leaves the registrations
post_same : (rs : List Registration)
    → IsPosted (λ ss. registrations ss ≡ rs) (λ o q. Unit {0}) (λ o e. Unit {0}) (λ e. Unit {0})
post_same rs = record {
  queue = λ ss o same. tt;
  none = λ o. tt;
  replaced = λ ss o q same is. with_registrations ss o q ∙ same;
  pushed = λ o q e is new. tt;
  reduced = λ o q e is. tt;
  due = λ o q is. each_holds (λ (e : Queued). Unit {0}) (λ e. tt) q;
  new = λ o e new. tt;
}

-- those that stay are the registrations that do not go
left_same : (out : Registration → Bool) (ps : List (Option ℕ)) (ss : List Seat)
    → registrations (seats_left out ps ss) ≡ filter (λ r. not (out r)) (registrations ss)
left_same out ps [] = refl
left_same out ps (s ∷ ss) = by (out s.registration) (left_same out ps ss)
  where
    seat : Seat
    seat = record { registration = s.registration; queue = moved ps s.queue }

    by : (b : Bool)
        → registrations (seats_left out ps ss) ≡ filter (λ r. not (out r)) (registrations ss)
        → registrations ((if b then [] else seat ∷ []) ++ seats_left out ps ss)
        ≡ (if not b then s.registration ∷ filter (λ r. not (out r)) (registrations ss)
        else filter (λ r. not (out r)) (registrations ss))
    by true rest = rest
    by false rest = ap (λ rs. s.registration ∷ rs) rest

-- a post leaves the registrations
posted_same : (c : Core) (p : Posting) → registrations p.seats ≡ registrations c.0
    → registrations (left c (posted_of c p)).0 ≡ registrations c.0
posted_same c p same = by (nat_le (length p.due) 1024)
  where
    by : (b : Bool)
        → registrations
        (left c (if b then Some ((p.seats, c.1), deliveries c.0 p.due) else None)).0
        ≡ registrations c.0
    by true = same
    by false = refl

-- a registration more is the last, where there is room
added_same : (c : Core) (r : Registration)
    → registrations
    (left {Answer = List Delivery} c (option_map (λ d. (d, [])) (added c r))).0
    ≡ with_last (registrations c.0) r
added_same c r =
    by (nat_lt (length c.0) 256)
    ∙ ap (λ n. if nat_lt n 256 then registrations c.0 ++ r ∷ [] else registrations c.0)
    (sym (length-map c.0 (λ (s : Seat). s.registration)))
  where
    none : List Delivery
    none = []

    by : (b : Bool)
        → registrations
        (left c (option_map (λ d. (d, none))
        (if b then Some (c.0 ++ fresh r ∷ [], c.1) else None))).0
        ≡ (if b then registrations c.0 ++ r ∷ [] else registrations c.0)
    by true = map-append (λ (s : Seat). s.registration) c.0 (fresh r ∷ [])
    by false = refl

-- suspending leaves the registrations
suspended_same : (c : Core) (o : ObjectName) (on : Bool)
    → registrations (left c (suspended c o on)).0 ≡ registrations c.0
suspended_same c o true = by (with_suspended c.1 o)
  where
    none : List Delivery
    none = []

    by : (f : Option (List ObjectName))
        → registrations (left c (option_map (λ os. ((c.0, os), none)) f)).0 ≡ registrations c.0
    by None = refl
    by (Some os) = refl
suspended_same c o false = with_registrations c.0 o []

-- the registrations that the calls leave are those that they tell
registrations_told : (h : List Call) → registrations (after h).0 ≡ registered h
registrations_told [] = refl
registrations_told (Add r ∷ h) =
    added_same (after h) r ∙ ap (λ rs. with_last rs r) (registrations_told h)
registrations_told (Remove o name about ∷ h) =
    let out = goes o name about in
    let ps = new_places out 0 (after h).0 in
    with_registrations (seats_left out ps (after h).0) o (moved ps (queue_of (after h).0 o))
    ∙ left_same out ps (after h).0
    ∙ ap (filter (λ r. not (out r))) (registrations_told h)
registrations_told (Suspend o on ∷ h) =
    suspended_same (after h) o on ∙ registrations_told h
registrations_told (Post note immediate ∷ h) =
    let c = after h in
    posted_same c (came_to_all note immediate c.1 c.0)
    ((came_kept (post_same (registrations c.0)) note immediate c.1 (λ ss k s same at. tt) c.0
    (length c.0) refl).seats)
    ∙ registrations_told h

-- and so it is of a core that the calls left
pub core_registered : (h : List Call) (c : Core) → c ≡ after h → registrations c.0 ≡ registered h
core_registered h c is = ap (λ (d : Core). registrations d.0) is ∙ registrations_told h
