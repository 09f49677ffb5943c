-- A queue that has other items, and then its own again, is as it was.
use Rattle.std.proofs.Common.{◌≡◌, ◌==◌, ℕ, Bool, true, false, cond, List, [], ◌∷◌, refl, sym, ap}
use Rattle.std.{proofs.Common.◌∙◌, specs.{Prelude.{Some, option_and_then, option_map}, List.find}}
use Rattle.do_machine.specs.State.{change, queue, queue_to, with_items, with_queue}
use Rattle.do_machine.specs.declared.{item.Item.Item, state.{Queue.Queue, State.State}}
use Rattle.do_machine.specs.declared.state.Station.{Station}
use Rattle.do_facts.proofs.machine.Queues.{queue_among, waiting_for}
use Rattle.do_orders.proofs.Stations.{at_peer, at_port, changed_again, changes_it}

-- among the queues of a station
queues_back : (to : ℕ) (v w : List Item) (qs : List Queue) → waiting_for to qs ≡ Some w →
    at_peer to (with_items w) (at_peer to (with_items v) qs) ≡ qs
queues_back to v w [] h = refl
queues_back to v w (q ∷ qs) h = go (to == q.to) refl (queues_back to v w qs) h
  where
    go : (b : Bool) → (to == q.to) ≡ b →
        (waiting_for to qs ≡ Some w →
        at_peer to (with_items w) (at_peer to (with_items v) qs) ≡ qs) →
        option_map (λ x. x.items) (cond b (Some q) (find (λ x. to == x.to) qs)) ≡ Some w →
        at_peer to (with_items w) (cond b (with_items v q ∷ qs) (q ∷ at_peer to (with_items v) qs))
        ≡ q ∷ qs
    go true e r k =
        let same : q.items ≡ w = cc in
        ap (λ b. cond b (with_items w q ∷ qs) (with_items v q ∷ at_peer to (with_items w) qs)) e
        ∙ ap (λ items. with_items items q ∷ qs) (sym same)
    go false e r k =
        let others = at_peer to (with_items v) qs in
        ap (λ b. cond b (with_items w q ∷ others) (q ∷ at_peer to (with_items w) others)) e
        ∙ ap (λ x. q ∷ x) (r k)

-- among stations
stations_back : (from to : ℕ) (v w : List Item) (ss : List Station) →
    queue_among from to ss ≡ Some w →
    at_port from (with_queue to w) (at_port from (with_queue to v) ss) ≡ ss
stations_back from to v w [] h = refl
stations_back from to v w (s ∷ ss) h =
    go (from == s.port) refl (stations_back from to v w ss) h
  where
    go : (b : Bool) → (from == s.port) ≡ b →
        (queue_among from to ss ≡ Some w →
        at_port from (with_queue to w) (at_port from (with_queue to v) ss) ≡ ss) →
        option_and_then (λ x. queue_to to x) (cond b (Some s) (find (λ x. from == x.port) ss))
        ≡ Some w →
        at_port from (with_queue to w)
        (cond b (with_queue to v s ∷ ss) (s ∷ at_port from (with_queue to v) ss))
        ≡ s ∷ ss
    go true e r k =
        changed_again from (with_queue to w) (with_queue to v) s ss refl e
        ∙ ap (λ qs. record s { queues = qs } ∷ ss) (queues_back to v w s.queues k)
    go false e r k =
        changes_it from (with_queue to w) s (at_port from (with_queue to v) ss) false e
        ∙ ap (λ x. s ∷ x) (r k)

-- in a state
pub put_back : (from to : ℕ) (v w : List Item) (S : State) → queue S from to ≡ Some w →
    change from (with_queue to w) (change from (with_queue to v) S) ≡ S
put_back from to v w S h =
    ap (λ ss. record { stations = ss }) (stations_back from to v w S.stations h)
