-- What a walk gives that ends at the first that is an observer's: its queue, or the list without it
-- or with another.
use Rattle.std.proofs.Common.{◌≡◌, ℕ, suc, Bool, true, false, List, [], ◌∷◌, Option, Some, None}
use Rattle.std.proofs.Common.{refl, ap, ◌∙◌}
use Rattle.std.specs.{Prelude.{if◌then◌else◌, remove, slice_get, slice_set}, Option.option_map}
use Rattle.do_base.specs.names.Names.{ObjectName}
use Rattle.do_native_acts.specs.laws.KindLaws.{some_same}
use Rattle.do_center.specs.Observers.{first_of, same_object, without_first}
use Rattle.do_center.specs.{Queues.{queue_of, seat_with, with_queue}, Slots.queue_among}
use Rattle.do_center.specs.declared.{queues.Queued.Queued, seats.Seat.Seat, slots.Waiting.Waiting}

-- what is given where none of a list is an observer's, and what at the first that is
pub record Given {A B : Type 0} (observer : A → ObjectName) (o : ObjectName) (xs : List A)
    (given none : B) (found : ℕ → A → B) : Type 0 where
  pub absent : first_of observer xs o ≡ None → given ≡ none
  pub first : (k : ℕ) (x : A) → first_of observer xs o ≡ Some k → slice_get xs k ≡ Some x
      → given ≡ found k x

module _ {A B : Type 0} (observer : A → ObjectName) (o : ObjectName) (walk none : List A → B)
    (found : List A → ℕ → A → B) (here : A → List A → B) (later : A → B → B)
    (steps : (x : A) (xs : List A) → walk (x ∷ xs)
    ≡ (if same_object (observer x) o then here x xs else later x (walk xs)))
    (ends : walk [] ≡ none [])
    (stays : (x : A) (xs : List A) → later x (none xs) ≡ none (x ∷ xs))
    (is_here : (x : A) (xs : List A) → here x xs ≡ found (x ∷ xs) 0 x)
    (is_later : (x : A) (xs : List A) (k : ℕ) (y : A)
    → later x (found xs k y) ≡ found (x ∷ xs) (suc k) y) where
  -- what is given with one in front
  given_more : (x : A) (xs : List A) (b : Bool) (f : Option ℕ)
      → (f ≡ None → walk xs ≡ none xs)
      → ((j : ℕ) (y : A) → f ≡ Some j → slice_get xs j ≡ Some y → walk xs ≡ found xs j y)
      → ((if b then Some 0 else option_map suc f) ≡ None
      → (if b then here x xs else later x (walk xs)) ≡ none (x ∷ xs))
      × ((k : ℕ) (y : A) → (if b then Some 0 else option_map suc f) ≡ Some k
      → slice_get (x ∷ xs) k ≡ Some y
      → (if b then here x xs else later x (walk xs)) ≡ found (x ∷ xs) k y)
  given_more x xs true f absent first = (
    λ e. cc,
    λ k y e at. is_here x xs
        ∙ ap (found (x ∷ xs) 0) (some_same (ap (slice_get (x ∷ xs)) (some_same e) ∙ at))
        ∙ ap (λ j. found (x ∷ xs) j y) (some_same e),
  )
  given_more x xs false None absent first = (
    λ e. ap (later x) (absent refl) ∙ stays x xs,
    λ k y e at. cc,
  )
  given_more x xs false (Some j) absent first = (
    λ e. cc,
    λ k y e at. ap (later x) (first j y refl (ap (slice_get (x ∷ xs)) (some_same e) ∙ at))
        ∙ is_later x xs j y ∙ ap (λ i. found (x ∷ xs) i y) (some_same e),
  )

  -- what is given of a list
  pub given_of : (xs : List A) → Given observer o xs (walk xs) (none xs) (found xs)
  given_of [] = record { absent = λ e. ends; first = λ k y e at. cc }
  given_of (x ∷ xs) =
      let rest = given_of xs in
      let more =
      given_more x xs (same_object (observer x) o) (first_of observer xs o) rest.absent rest.first
      in record {
        absent = λ e. steps x xs ∙ more.0 e;
        first = λ k y e at. steps x xs ∙ more.1 k y e at;
      }

-- whose a registration is
abbrev pub seat_observer : Seat → ObjectName
seat_observer s = s.registration.observer

-- whose a queue is
abbrev pub waiting_observer : Waiting → ObjectName
waiting_observer w = w.observer

-- the queue of an observer is that of its first registration, and none without registration
pub queue_given : (ss : List Seat) (o : ObjectName)
    → Given seat_observer o ss (queue_of ss o) [] (λ k s. s.queue)
queue_given ss o =
    given_of seat_observer o (λ xs. queue_of xs o) (λ xs. []) (λ xs k s. s.queue)
    (λ s xs. s.queue) (λ s q. q) (λ s xs. refl) refl (λ s xs. refl) (λ s xs. refl)
    (λ s xs k y. refl) ss

-- and is put there
pub queue_put : (ss : List Seat) (o : ObjectName) (q : List Queued)
    → Given seat_observer o ss (with_queue ss o q) ss (λ k s. slice_set ss k (seat_with s q))
queue_put ss o q =
    given_of seat_observer o (λ xs. with_queue xs o q) (λ xs. xs)
    (λ xs k s. slice_set xs k (seat_with s q)) (λ s xs. seat_with s q ∷ xs) (λ s xs. s ∷ xs)
    (λ s xs. refl) refl (λ s xs. refl) (λ s xs. refl) (λ s xs k y. refl) ss

-- the queue of an observer among those that wait
pub among_given : (ws : List Waiting) (o : ObjectName)
    → Given waiting_observer o ws (queue_among ws o) [] (λ k w. w.queue)
among_given ws o =
    given_of waiting_observer o (λ xs. queue_among xs o) (λ xs. []) (λ xs k w. w.queue)
    (λ w xs. w.queue) (λ w q. q) (λ w xs. refl) refl (λ w xs. refl) (λ w xs. refl)
    (λ w xs k y. refl) ws

-- and those that are left without it
pub left_given : (ws : List Waiting) (o : ObjectName)
    → Given waiting_observer o ws (without_first waiting_observer ws o) ws (λ k w. remove ws k)
left_given ws o =
    given_of waiting_observer o (λ xs. without_first waiting_observer xs o) (λ xs. xs)
    (λ xs k w. remove xs k) (λ w xs. xs) (λ w xs. w ∷ xs) (λ w xs. refl) refl (λ w xs. refl)
    (λ w xs. refl) (λ w xs k y. refl) ws
