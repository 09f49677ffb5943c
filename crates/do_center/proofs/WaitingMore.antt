-- The queues of registrations, and of one more.
use Rattle.std.proofs.Common.{◌≡◌, Bool, true, false, List, [], ◌∷◌, ◌++◌, refl, ap, ◌∙◌, map, ℕ}
use Rattle.std.proofs.Common.{zero, suc, ◌+◌, take, sym, Some, add-one}
use Rattle.std.{specs.Prelude.{if◌then◌else◌, slice_get}, proofs.lemmas.List.map-append}
use Rattle.do_base.specs.declared.values.value.Value.{Value}
use Rattle.do_native_acts.specs.laws.KindLaws.{some_same}
use Rattle.do_center.specs.{Seats.is_none, Slots.{waiting, waiting_value}, declared.seats.Seat.Seat}
use Rattle.do_center.specs.declared.slots.Waiting.{Waiting}

-- the queue of a registration with its observer
abbrev seat_waiting : Seat → Waiting
seat_waiting s = record { observer = s.registration.observer; queue = s.queue }

-- of two lists they are those of the one and of the other
pub waiting-append : (ss more : List Seat) → waiting (ss ++ more) ≡ waiting ss ++ waiting more
waiting-append [] more = refl
waiting-append (s ∷ ss) more = by (is_none s.queue) (waiting-append ss more)
  where
    by : (b : Bool) → waiting (ss ++ more) ≡ waiting ss ++ waiting more
        → (if b then waiting (ss ++ more) else seat_waiting s ∷ waiting (ss ++ more))
        ≡ (if b then waiting ss else seat_waiting s ∷ waiting ss) ++ waiting more
    by true rest = rest
    by false rest = ap (λ ws. seat_waiting s ∷ ws) rest

-- and so it is of their values
pub waiting_more : (ss more : List Seat)
    → map waiting_value (waiting (ss ++ more))
    ≡ map waiting_value (waiting ss) ++ map waiting_value (waiting more)
waiting_more ss more =
    ap (map waiting_value) (waiting-append ss more)
    ∙ map-append waiting_value (waiting ss) (waiting more)

-- the items up to one more
pub take_one : {A : Type 0} (xs : List A) (k : ℕ) (x : A) → slice_get xs k ≡ Some x
    → take (suc k) xs ≡ take k xs ++ x ∷ []
take_one [] k x e = cc
take_one (y ∷ xs) zero x e = ap (λ z. z ∷ []) (some_same e)
take_one (y ∷ xs) (suc k) x e = ap (λ ys. y ∷ ys) (take_one xs k x e)

-- the rows of the first registrations, and of the next
pub next_row : (ss : List Seat) (k : ℕ) (s : Seat) (rows new : List Value) → slice_get ss k ≡ Some s
    → rows ≡ map waiting_value (waiting (take k ss))
    → new ≡ rows ++ map waiting_value (waiting (s ∷ []))
    → new ≡ map waiting_value (waiting (take (k + 1) ss))
next_row ss k s rows new at so_far more =
    more ∙ ap (λ rs. rs ++ map waiting_value (waiting (s ∷ []))) so_far
    ∙ sym (ap (λ n. map waiting_value (waiting (take n ss))) (add-one k)
    ∙ ap (λ xs. map waiting_value (waiting xs)) (take_one ss k s at)
    ∙ waiting_more (take k ss) (s ∷ []))
