-- What is left of the registrations of a core is a core's.
use Rattle.std.proofs.Common.{◌≡◌, ℕ, zero, suc, ◌+◌, ◌≤◌, Bool, true, false, ◌&&◌, List, [], ◌∷◌}
use Rattle.std.proofs.Common.{◌++◌, length, Option, Some, None, refl, sym, ◌∙◌, ap, arith}
use Rattle.std.proofs.Common.{length-append, append_assoc}
use Rattle.std.specs.{Prelude.{if◌then◌else◌, not, ◌||◌, slice_get, slice_index_or}, List.list_all}
use Rattle.std.proofs.lemmas.{Bool.{and_parts, and_from, cond_both}, List.length-map}
use Rattle.do_base.specs.names.Names.{ObjectName}
use Rattle.do_native_acts.specs.laws.{KeptLaws.flat_fewer, KindLaws.some_same}
use Rattle.do_center.specs.{Notes.is_note, Observers.same_object, Queues.{queue_of, seat_with}}
use Rattle.do_center.specs.{Queues.with_queue, Removing.{count_left, left_of, moved, moved_entry}}
use Rattle.do_center.specs.Removing.{new_places, place_left, seat_left, seats_left}
use Rattle.do_center.specs.Seats.{are_apart, are_seats, has_none, is_none, is_of, registrations}
use Rattle.do_center.specs.declared.{queues.Queued.Queued, registrations.Registration.Registration}
use Rattle.do_center.specs.{declared.seats.Seat.Seat, laws.QueueLaws.{left_fit, moved_kept}}
use Rattle.do_center.proofs.{CoreKept.{seats_from, seats_parts}, SeatsKept.{AreSeats, CameBy}}
use Rattle.do_center.proofs.SeatsKept.{IsGiven, MayWait, NoneOf, none_fit, none_from, seats_posted}

-- no more wait than did
moved_fewer : (ps : List (Option ℕ)) (q : List Queued) → length (moved ps q) ≤ length q
moved_fewer ps q =
    flat_fewer (λ e. moved_entry (slice_index_or ps e.place None) e)
    (λ e. one (slice_index_or ps e.place None) e) q
  where
    one : (p : Option ℕ) (e : Queued) → length (moved_entry p e) ≤ 1
    one None e = omega arith
    one (Some k) e = omega arith

-- behind others an item stands at the place behind them
get_behind : {A : Type 0} (pre xs : List A) (x : A)
    → slice_get (pre ++ x ∷ xs) (length pre) ≡ Some x
get_behind [] xs x = refl
get_behind (y ∷ pre) xs x = get_behind pre xs x

module _ (out : Registration → Bool) where
  -- the registrations of those that stay
  abbrev left_registrations : List (Option ℕ) → List Seat → List Registration
  left_registrations ps ss = registrations (seats_left out ps ss)

  -- a registration that stays stands at its new place
  place_kept : (ps : List (Option ℕ)) (pre : List Registration) (ss : List Seat) (k j n : ℕ)
      → n ≡ length pre → slice_index_or (new_places out n ss) k None ≡ Some j
      → slice_get (pre ++ left_registrations ps ss) j ≡ slice_get (registrations ss) k
  place_kept ps pre [] k j n counted at = cc
  place_kept ps pre (s ∷ ss) k j n counted at =
      by (out s.registration) k at
      (λ i m pre is. place_kept ps pre ss i j m is)
    where
      seat : Seat
      seat = record { registration = s.registration; queue = moved ps s.queue }

      by : (b : Bool) (k : ℕ)
          → slice_index_or (place_left b n ∷ new_places out (count_left b n) ss) k None ≡ Some j
          → ((i m : ℕ) (pre : List Registration) → m ≡ length pre
          → slice_index_or (new_places out m ss) i None ≡ Some j
          → slice_get (pre ++ left_registrations ps ss) j ≡ slice_get (registrations ss) i)
          → slice_get
          (pre ++ registrations ((if b then [] else seat ∷ []) ++ seats_left out ps ss)) j
          ≡ slice_get (s.registration ∷ registrations ss) k
      by true zero at rest = cc
      by true (suc k) at rest = rest k n pre counted at
      by false zero at rest =
          ap (slice_get (pre ++ s.registration ∷ left_registrations ps ss))
          (sym (some_same at) ∙ counted)
          ∙ get_behind pre (left_registrations ps ss) s.registration
      by false (suc k) at rest =
          ap (λ xs. slice_get xs j)
          (sym (append_assoc pre (s.registration ∷ []) (left_registrations ps ss)))
          ∙ rest k (n + 1) (pre ++ s.registration ∷ [])
          (omega (arith, counted, length-append pre (s.registration ∷ []))) at

  module _ (ss : List Seat) where
    -- the places that they then have
    abbrev pub places : List (Option ℕ)
    places = new_places out 0 ss

    -- those that stay
    abbrev pub left : List Registration
    left = left_registrations places ss

    -- the observer may have what is left of its queue
    queue_left : (o : ObjectName) (q : List Queued) → MayWait (registrations ss) o q
        → MayWait left o (moved places q)
    queue_left o q may = (
      omega (arith, moved_fewer places q, may.0),
      moved_kept (CameBy (registrations ss) o) (CameBy left o) places
          (λ e j at came.
          ap (λ f. is_of o f && is_note e.note) (place_kept places [] ss e.place j 0 refl at)
          ∙ came) q may.1,
    )

  module _ (ps : List (Option ℕ)) where
    -- where nothing waits nothing is left
    none_left : (q : List Queued) → is_none q ≡ true → is_none (moved ps q) ≡ true
    none_left [] e = refl
    none_left (e ∷ q) is = cc

    -- and nothing at registrations that are an observer's
    none_moved : (b : Bool) (q : List Queued) → (not b || is_none q) ≡ true
        → (not b || is_none (moved ps q)) ≡ true
    none_moved true q none = none_left q none
    none_moved false q none = refl

    -- each queue stands at the first registration of its observer
    apart_left : (xs : List Seat) → are_apart xs ≡ true → are_apart (seats_left out ps xs) ≡ true
    apart_left [] all = refl
    apart_left (s ∷ xs) all =
        let p = s.registration.observer in
        let rest = seats_left out ps xs in
        let parts = and_parts (list_all (has_none p) xs) (are_apart xs) all in
        cond_both (out s.registration) [] (seat_with s (moved ps s.queue) ∷ [])
        (λ first. are_apart (first ++ rest) ≡ true) (λ _. apart_left xs parts.1)
        (λ _. and_from (list_all (has_none p) rest) (are_apart rest)
        (none_from p rest
        (left_fit (λ r. Unit {0}) (NoneOf p) (NoneOf p) out ps
        (λ o q none. none_moved (same_object o p) q none) xs (none_fit p xs parts.0)))
        (apart_left xs parts.1))

    -- no more stay than there were
    fewer_left : (xs : List Seat) → length (seats_left out ps xs) ≤ length xs
    fewer_left xs =
        flat_fewer (seat_left out ps) (λ s.
        cond_both (out s.registration) [] (seat_with s (moved ps s.queue) ∷ [])
        (λ left. length left ≤ 1) (λ _. omega arith) (λ _. omega arith)) xs

  -- what is left of the registrations of a core can be a core's
  pub left_kept : (o : ObjectName) (ss : List Seat) → are_seats ss ≡ true
      → are_seats (left_of out o ss) ≡ true
  left_kept o ss is =
      let ps = new_places out 0 ss in
      let q = queue_of ss o in
      let xs = seats_left out ps ss in
      let rs = registrations ss in
      let few = (seats_parts ss is).0 in
      let are = (seats_parts ss is).1 in
      let stay : AreSeats (registrations xs) xs = (
        refl,
        left_fit IsGiven (MayWait rs) (MayWait (registrations xs)) out ps (queue_left ss) ss are.1,
        apart_left ps ss are.2,
      ) in
      seats_from (registrations xs) (with_queue xs o (moved ps q))
      (omega (
        arith,
        length-map xs (λ (s : Seat). s.registration),
        fewer_left ps ss,
        length-map ss (λ (s : Seat). s.registration),
        few,
      ))
      ((seats_posted (registrations xs)).replaced xs o (moved ps q) stay
      (queue_left ss o q ((seats_posted rs).queue ss o are)))
