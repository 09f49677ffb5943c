-- One registration more, with its queue.
use Rattle.std.proofs.Common.{◌≡◌, ℕ, zero, suc, ◌+◌, List, [], ◌∷◌, ◌++◌, Some, sym, ◌∙◌, ap, drop}
use Rattle.std.{proofs.Common.{append_assoc, add-one}, specs.Prelude.slice_get}
use Rattle.do_native_acts.specs.laws.KindLaws.{some_same}
use Rattle.do_center.specs.{Observers.without_first, Slots.{queue_among, seated}}
use Rattle.do_center.specs.declared.{registrations.Registration.Registration, seats.Seat.Seat}
use Rattle.do_center.specs.declared.slots.Waiting.{Waiting}

-- what stands at a place stands in front of what is behind it
pub drop_at : {A : Type 0} (xs : List A) (k : ℕ) (x : A) → slice_get xs k ≡ Some x
    → drop k xs ≡ x ∷ drop (suc k) xs
drop_at [] k x e = cc
drop_at (y ∷ xs) zero x e = ap (λ z. z ∷ xs) (some_same e)
drop_at (y ∷ xs) (suc k) x e = drop_at xs k x e

-- what was seated so far and is left is all
pub seated_more : (rs : List Registration) (k : ℕ) (r : Registration) (ws left : List Waiting)
    (done new all : List Seat) (s : Seat) → slice_get rs k ≡ Some r
    → done ++ seated (drop k rs) ws ≡ all
    → left ≡ without_first (λ w. w.observer) ws r.observer
    → s ≡ record { registration = r; queue = queue_among ws r.observer }
    → new ≡ done ++ s ∷ []
    → new ++ seated (drop (k + 1) rs) left ≡ all
seated_more rs k r ws left done new all s at so_far rest is pushed =
    let more = seated (drop (suc k) rs) (without_first (λ w. w.observer) ws r.observer) in
    ap (λ n. new ++ seated (drop n rs) left) (add-one k)
    ∙ ap (λ us. new ++ seated (drop (suc k) rs) us) rest
    ∙ ap (λ ss. ss ++ more) pushed ∙ append_assoc done (s ∷ []) more
    ∙ ap (λ t. done ++ t ∷ more) is
    ∙ sym (ap (λ xs. done ++ seated xs ws) (drop_at rs k r at)) ∙ so_far
