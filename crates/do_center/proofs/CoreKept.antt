-- What each call leaves of a core is a core.
use Rattle.std.proofs.Common.{◌≡◌, ℕ, zero, suc, ◌<◌, ◌≤◌, Bool, true, false, ◌&&◌, List, [], ◌∷◌}
use Rattle.std.proofs.Common.{◌++◌, length, Option, Some, None, refl, sym, ◌∙◌, ap, subst, arith}
use Rattle.std.{proofs.Common.length-append, specs.Prelude.{not, ◌||◌, slice_get, nat_le}}
use Rattle.std.specs.{List.{All, list_all}, Option.option_map}
use Rattle.std.proofs.lemmas.Bool.{and_parts, and_from, cond_both, leb-true, le-leb, not-true}
use Rattle.std.proofs.lemmas.{Bool.{or_from, or_parts, or_right}, List.{map-append, length-map}}
use Rattle.std.proofs.lemmas.List.Elements.{All-nil, All-push, All-weaker}
use Rattle.std.proofs.lemmas.{List.Folds.{list_all-append, list_any-append}, Option.slice_get-map}
use Rattle.do_base.specs.names.Names.{ObjectName}
use Rattle.do_center.specs.{Notes.is_note, Observers.{are_distinct, has_object, same_object}}
use Rattle.do_center.specs.{Observers.without_object, Posting.came_to_all, Queues.with_queue}
use Rattle.do_center.specs.{Registrations.is_registration, Seats.{are_apart, are_seats}}
use Rattle.do_center.specs.Seats.{are_suspended, has_none, is_core, is_of, is_seat, registrations}
use Rattle.do_center.specs.declared.{notes.Note.Note, queues.Queued.Queued}
use Rattle.do_center.specs.declared.{registrations.Registration.Registration, seats.Seat.Seat}
use Rattle.do_center.specs.laws.{PostLaws.came_kept, SameObject.{same_refl, same_sym}}
use Rattle.do_center.proofs.SeatsKept.{AreSeats, CameBy, IsSeat, seats_are, seats_of, seats_posted}

-- registrations of a core are at most 256, each with a queue that its observer may have
pub seats_parts : (ss : List Seat) → are_seats ss ≡ true
    → (length (registrations ss) ≤ 256) × AreSeats (registrations ss) ss
seats_parts ss is =
    let rs = registrations ss in
    let limits = and_parts (nat_le (length ss) 256) (list_all (is_seat rs) ss && are_apart ss) is in
    let others = and_parts (list_all (is_seat rs) ss) (are_apart ss) limits.1 in (
      subst (λ n. n ≤ 256) (sym (length-map ss (λ (s : Seat). s.registration)))
          (leb-true (length ss) 256 limits.0),
      (refl, seats_of rs ss others.0, others.1),
    )

-- and such can be a core's
pub seats_from : (rs : List Registration) (ss : List Seat) → length rs ≤ 256 → AreSeats rs ss
    → are_seats ss ≡ true
seats_from rs ss few are =
    let many : length rs ≡ length ss =
    sym (ap length are.0) ∙ length-map ss (λ (s : Seat). s.registration) in
    and_from (nat_le (length ss) 256) (list_all (is_seat (registrations ss)) ss && are_apart ss)
    (le-leb (length ss) 256 (subst (λ n. n ≤ 256) many few))
    (and_from (list_all (is_seat (registrations ss)) ss) (are_apart ss)
    (ap (λ xs. list_all (is_seat xs) ss) are.0 ∙ seats_are rs ss are.1) are.2)

-- registrations can be a core's without the queue of an observer
pub cleared_kept : (ss : List Seat) (o : ObjectName) → are_seats ss ≡ true
    → are_seats (with_queue ss o []) ≡ true
cleared_kept ss o is =
    let rs = registrations ss in
    let parts = seats_parts ss is in
    seats_from rs (with_queue ss o []) parts.0
    ((seats_posted rs).replaced ss o [] parts.1 ((seats_posted rs).none o))

-- what stands at a place of a list stands there when more follow
get_before : {A : Type 0} (xs more : List A) (k : ℕ) (x : A) → slice_get xs k ≡ Some x
    → slice_get (xs ++ more) k ≡ Some x
get_before [] more k x e = cc
get_before (y ∷ xs) more zero x e = e
get_before (y ∷ xs) more (suc k) x e = get_before xs more k x e

module _ (rs : List Registration) (r : Registration) where
  -- what waits at a registration waits there when one more is added
  queued_before : (o : ObjectName) (e : Queued) → CameBy rs o e → CameBy (rs ++ r ∷ []) o e
  queued_before o e is = by (slice_get rs e.place) refl is
    where
      by : (f : Option Registration) → slice_get rs e.place ≡ f
          → (is_of o f && is_note e.note) ≡ true
          → (is_of o (slice_get (rs ++ r ∷ []) e.place) && is_note e.note) ≡ true
      by None at both = cc
      by (Some x) at both =
          ap (λ f. is_of o f && is_note e.note) (get_before rs (r ∷ []) e.place x at) ∙ both

  -- so each registration keeps the limits
  seats_before : (ss : List Seat) → All (IsSeat rs) ss → All (IsSeat (rs ++ r ∷ [])) ss
  seats_before ss all =
      All-weaker (IsSeat rs) (IsSeat (rs ++ r ∷ [])) (λ s is.
      let o = s.registration.observer in (
        is.0,
        (
          is.1.0,
          All-weaker (CameBy rs o) (CameBy (rs ++ r ∷ []) o) (queued_before o) s.queue is.1.1,
        ),
      )) ss all

-- a registration without queue
abbrev pub fresh : Registration → Seat
fresh r = record { registration = r; queue = [] }

-- one more without queue keeps queues apart
apart_pushed : (ss : List Seat) (r : Registration) → are_apart ss ≡ true
    → are_apart (ss ++ fresh r ∷ []) ≡ true
apart_pushed [] r apart = refl
apart_pushed (s ∷ ss) r apart =
    let p = s.registration.observer in
    let parts = and_parts (list_all (has_none p) ss) (are_apart ss) apart in
    and_from (list_all (has_none p) (ss ++ fresh r ∷ [])) (are_apart (ss ++ fresh r ∷ []))
    (list_all-append (has_none p) ss (fresh r ∷ [])
    ∙ and_from (list_all (has_none p) ss) (list_all (has_none p) (fresh r ∷ [])) parts.0
    (and_from (has_none p (fresh r)) true (or_right (not (same_object r.observer p)) true refl)
    refl))
    (apart_pushed ss r parts.1)

-- one registration more can be a core's, where there is room
pub added_kept : (ss : List Seat) (r : Registration) → length ss < 256
    → is_registration r ≡ true → are_seats ss ≡ true → are_seats (ss ++ fresh r ∷ []) ≡ true
added_kept ss r few good is =
    let rs = registrations ss in
    let are = (seats_parts ss is).1 in
    seats_from (rs ++ r ∷ []) (ss ++ fresh r ∷ [])
    (omega (arith, length-append rs (r ∷ []), length-map ss (λ (s : Seat). s.registration), few)) (
      map-append (λ (s : Seat). s.registration) ss (fresh r ∷ []),
      All-push (IsSeat (rs ++ r ∷ [])) ss (fresh r) (seats_before rs r ss are.1)
          (good, (omega arith, All-nil (CameBy (rs ++ r ∷ []) r.observer))),
      apart_pushed ss r are.2,
    )

-- an object is among others and one more where it is among them or is it
pub has_pushed : (os : List ObjectName) (o x : ObjectName)
    → has_object (os ++ o ∷ []) x ≡ (has_object os x || same_object x o)
has_pushed os o x =
    list_any-append (same_object x) os (o ∷ [])
    ∙ ap (λ b. has_object os x || b) (by (same_object x o))
  where
    by : (b : Bool) → (b || false) ≡ b
    by true = refl
    by false = refl

-- with one more that is not among them no object is there twice
pub distinct_pushed : (os : List ObjectName) (o : ObjectName) → has_object os o ≡ false
    → are_distinct os ≡ true → are_distinct (os ++ o ∷ []) ≡ true
distinct_pushed [] o absent distinct = refl
distinct_pushed (x ∷ os) o absent distinct =
    let parts = and_parts (not (has_object os x)) (are_distinct os) distinct in
    let both = or_parts (same_object o x) (has_object os o) absent in
    and_from (not (has_object (os ++ o ∷ []) x)) (are_distinct (os ++ o ∷ []))
    (ap not
    (has_pushed os o x ∙ ap (λ b. b || same_object x o) (not-true (has_object os x) parts.0)
    ∙ same_sym x o ∙ both.0))
    (distinct_pushed os o both.1 parts.1)

-- an object that is not among these is not among those left
has_left : (os : List ObjectName) (o x : ObjectName) → has_object os x ≡ false
    → has_object (without_object os o) x ≡ false
has_left [] o x none = refl
has_left (y ∷ os) o x none =
    let both = or_parts (same_object x y) (has_object os x) none in
    cond_both (same_object o y) os (y ∷ without_object os o) (λ ys. has_object ys x ≡ false)
    (λ _. both.1)
    (λ _. or_from (same_object x y) (has_object (without_object os o) x) both.0
    (has_left os o x both.1))

-- without one no object is there twice
pub distinct_left : (os : List ObjectName) (o : ObjectName) → are_distinct os ≡ true
    → (are_distinct (without_object os o) ≡ true)
distinct_left [] o distinct = refl
distinct_left (x ∷ os) o distinct =
    let parts = and_parts (not (has_object os x)) (are_distinct os) distinct in
    let left = without_object os o in
    cond_both (same_object o x) os (x ∷ left) (λ ys. are_distinct ys ≡ true) (λ _. parts.1)
    (λ _. and_from (not (has_object left x)) (are_distinct left)
    (ap not (has_left os o x (not-true (has_object os x) parts.0))) (distinct_left os o parts.1))

-- and there are no more
fewer_left : (os : List ObjectName) (o : ObjectName)
    → length (without_object os o) ≤ length os
fewer_left [] o = omega arith
fewer_left (x ∷ os) o =
    cond_both (same_object o x) os (x ∷ without_object os o) (λ ys. length ys ≤ length (x ∷ os))
    (λ _. omega arith) (λ _. omega (arith, fewer_left os o))

-- one more observer may be suspended, where there is room
pub suspended_kept : (os : List ObjectName) (o : ObjectName) → length os < 256
    → has_object os o ≡ false → are_suspended os ≡ true → are_suspended (os ++ o ∷ []) ≡ true
suspended_kept os o few absent is =
    let parts = and_parts (nat_le (length os) 256) (are_distinct os) is in
    and_from (nat_le (length (os ++ o ∷ [])) 256) (are_distinct (os ++ o ∷ []))
    (le-leb (length (os ++ o ∷ [])) 256 (omega (arith, length-append os (o ∷ []), few)))
    (distinct_pushed os o absent parts.1)

-- and one may be resumed
pub resumed_kept : (os : List ObjectName) (o : ObjectName) → are_suspended os ≡ true
    → are_suspended (without_object os o) ≡ true
resumed_kept os o is =
    let parts = and_parts (nat_le (length os) 256) (are_distinct os) is in
    and_from (nat_le (length (without_object os o)) 256)
    (are_distinct (without_object os o))
    (le-leb (length (without_object os o)) 256
    (omega (arith, fewer_left os o, leb-true (length os) 256 parts.0)))
    (distinct_left os o parts.1)

-- what a post leaves can be a core's
pub posted_kept : (ss : List Seat) (note : Note) (immediate : Bool) (os : List ObjectName)
    → is_note note ≡ true → are_seats ss ≡ true
    → are_seats (came_to_all note immediate os ss).seats ≡ true
posted_kept ss note immediate os good is =
    let rs = registrations ss in
    let parts = seats_parts ss is in
    let kept =
    came_kept (seats_posted rs) note immediate os (λ xs k s are at.
    let o = s.registration.observer in
    let there : slice_get rs k ≡ Some s.registration =
    ap (λ ys. slice_get ys k) (sym are.0)
    ∙ slice_get-map (λ (x : Seat). x.registration) xs k
    ∙ ap (option_map (λ (x : Seat). x.registration)) at in
    and_from (is_of o (slice_get rs k)) (is_note note) (ap (is_of o) there ∙ same_refl o) good) ss
    (length ss) parts.1 in
    seats_from rs ((came_to_all note immediate os ss).seats) parts.0 kept.seats

-- the parts of a core
pub core_parts : (ss : List Seat) (os : List ObjectName) → is_core (ss, os) ≡ true
    → (are_seats ss ≡ true) × (are_suspended os ≡ true)
core_parts ss os is = and_parts (are_seats ss) (are_suspended os) is

-- and they make it
pub core_from : (ss : List Seat) (os : List ObjectName) → are_seats ss ≡ true
    → are_suspended os ≡ true → is_core (ss, os) ≡ true
core_from ss os seats suspended = and_from (are_seats ss) (are_suspended os) seats suspended
