-- What is in the queues of stations once one queue has other items, or an effect sent some.
use Rattle.std.proofs.Common.{◌≡◌, ◌==◌, ◌&&◌, ◌++◌, ℕ, cond, List, [], ◌∷◌, map, refl, arith}
use Rattle.std.specs.{Prelude.{Option, Some, option_and_then, option_map}, List.find}
use Rattle.std.proofs.lemmas.Grind.{common_steps}
use Rattle.do_machine.specs.declared.{item.Item.Item, state.{Effect.Effect, Parcel.Parcel}}
use Rattle.do_machine.specs.declared.state.{Queue.Queue, Station.Station}
use Rattle.do_machine.specs.{Commit.{committed, items_to, with_sent}, Lists.change_first}
use Rattle.do_machine.specs.State.{queue_to, with_items, with_queue}

-- the items that wait in the queue to a peer
abbrev pub waiting_for : ℕ → List Queue → Option (List Item)
waiting_for to qs = option_map (λ q. q.items) (find (λ q. to == q.to) qs)

-- the queue to a peer of the station of a port
abbrev pub queue_among : ℕ → ℕ → List Station → Option (List Item)
queue_among port to ss = option_and_then (λ s. queue_to to s) (find (λ s. port == s.port) ss)

-- a queue is there as it was, with other items if it is the one that has them
waits_with : (to : ℕ) (items : List Item) (b : ℕ) (qs : List Queue) →
    waiting_for b (change_first (λ q. to == q.to) (with_items items) qs)
    ≡ cond (b == to) (option_map (λ w. items) (waiting_for b qs)) (waiting_for b qs)
waits_with to items b [] = grind (arith, common_steps)
waits_with to items b (q ∷ qs) = grind (arith, common_steps, waits_with to items b qs)

-- so it is with the queues of all stations
pub queue_with : (from to : ℕ) (items : List Item) (a b : ℕ) (ss : List Station) →
    queue_among a b (change_first (λ s. from == s.port) (with_queue to items) ss)
    ≡ cond ((a == from) && (b == to)) (option_map (λ w. items) (queue_among a b ss))
    (queue_among a b ss)
queue_with from to items a b [] = grind (arith, common_steps)
queue_with from to items a b (s ∷ ss) =
    grind (arith, common_steps, waits_with to items b s.queues, queue_with from to items a b ss)

-- a queue has what was sent to its peer behind what waits
waits_behind : (b : ℕ) (sent : List Parcel) (qs : List Queue) →
    waiting_for b (map (with_sent sent) qs)
    ≡ option_map (λ w. w ++ items_to b sent) (waiting_for b qs)
waits_behind b sent [] = refl
waits_behind b sent (q ∷ qs) = grind (arith, common_steps, waits_behind b sent qs)

-- so have those of the station of an effect, and no others
pub queue_behind : (port a b : ℕ) (e : Effect) (ss : List Station) →
    queue_among a b (change_first (λ s. port == s.port) (committed e) ss)
    ≡ cond (a == port) (option_map (λ w. w ++ items_to b e.sent) (queue_among a b ss))
    (queue_among a b ss)
queue_behind port a b e [] = grind (arith, common_steps)
queue_behind port a b e (s ∷ ss) =
    grind (arith, common_steps, waits_behind b e.sent s.queues, queue_behind port a b e ss)

-- an effect's items stand behind those of the queue
pub grows_behind : (port to : ℕ) (e : Effect) (ss : List Station) (waiting : List Item) →
    queue_among port to ss ≡ Some waiting →
    queue_among port to (change_first (λ s. port == s.port) (committed e) ss)
    ≡ Some (waiting ++ items_to to e.sent)
grows_behind port to e ss waiting h =
    grind (arith, common_steps, h, queue_behind port port to e ss)
