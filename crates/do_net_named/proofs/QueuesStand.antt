-- In every state that a machine comes to, each node has one queue to each other node.
use Rattle.std.proofs.Common.{◌≡◌, ◌==◌, ◌∙◌, ℕ, Bool, true, false, cond, List, [], ◌∷◌, map, refl}
use Rattle.std.{proofs.Common.{sym, ap, subst, arith}, specs.List.IsDistinct}
use Rattle.std.proofs.lemmas.{Bool.Decides.Decides-eqb, List.Kept.AllPairs-from_increasing}
use Rattle.std.proofs.lemmas.Map.Made.{IsDistinct-from_AllPairs}
use Rattle.do_base.specs.declared.events.event.Event.{Event}
use Rattle.do_class.specs.Class.{Class}
use Rattle.do_cycles.proofs.InLists.{images_in, in_images}
use Rattle.do_facts.proofs.{ReachedStates.holds_of_reached, machine.follows.Moves.Moves}
use Rattle.do_facts.{proofs.machine.follows.Steps.by_any_step, specs.Reached.reached}
use Rattle.do_machine.specs.{Commit.{committed, with_sent}, Lists.{IsIn, change_first}}
use Rattle.do_machine.specs.{State.{ports, with_items, with_queue}, Step.step}
use Rattle.do_machine.{proofs.Inserting.by_port_rises, specs.World.{IsWorld, by_port, opening}}
use Rattle.do_machine.specs.{World.{opening_station, others}, declared.item.Item.Item}
use Rattle.do_machine.specs.declared.{node.Node.Node, state.{Queue.Queue, Seat.Seat, State.State}}
use Rattle.do_machine.specs.{declared.state.{Station.Station, Effect.Effect}, run.Run.Acting}

-- the peers to which a station has queues, in their order
abbrev pub peers_of : Station → List ℕ
peers_of s = map (λ q. q.to) s.queues

-- a port with the peers of its queues
abbrev Ways : Type 0
Ways = ℕ × List ℕ

-- a station's port, with the peers of its queues
abbrev ways_of : Station → Ways
ways_of s = (s.port, peers_of s)

-- so for each station
abbrev ways : State → List Ways
ways S = map ways_of S.stations

-- what is sent goes to the same peers
sent_peers : (e : Effect) (qs : List Queue) →
    map (λ (q : Queue). q.to) (map (with_sent e.sent) qs) ≡ map (λ (q : Queue). q.to) qs
sent_peers e [] = refl
sent_peers e (q ∷ qs) = ap (λ ps. q.to ∷ ps) (sent_peers e qs)

-- so do the items that take the place of others
requeued_peers : (to : ℕ) (items : List Item) (qs : List Queue) →
    map (λ (q : Queue). q.to) (change_first (λ q. to == q.to) (with_items items) qs)
    ≡ map (λ (q : Queue). q.to) qs
requeued_peers to items [] = refl
requeued_peers to items (q ∷ qs) = go (to == q.to) (requeued_peers to items qs)
  where
    go : (b : Bool) →
        map (λ (x : Queue). x.to) (change_first (λ x. to == x.to) (with_items items) qs)
        ≡ map (λ (x : Queue). x.to) qs →
        map (λ (x : Queue). x.to)
        (cond b (with_items items q ∷ qs)
        (q ∷ change_first (λ x. to == x.to) (with_items items) qs))
        ≡ q.to ∷ map (λ (x : Queue). x.to) qs
    go true e = refl
    go false e = ap (λ ps. q.to ∷ ps) e

-- a station that keeps its port and its peers leaves all as they are
kept_ways : (port : ℕ) (f : Station → Station) → ((s : Station) → ways_of (f s) ≡ ways_of s) →
    (ss : List Station) →
    map ways_of (change_first (λ s. port == s.port) f ss) ≡ map ways_of ss
kept_ways port f h [] = refl
kept_ways port f h (s ∷ ss) = go (port == s.port) (kept_ways port f h ss)
  where
    go : (b : Bool) →
        map ways_of (change_first (λ x. port == x.port) f ss) ≡ map ways_of ss →
        map ways_of (cond b (f s ∷ ss) (s ∷ change_first (λ x. port == x.port) f ss))
        ≡ ways_of s ∷ map ways_of ss
    go true e = ap (λ w. w ∷ map ways_of ss) (h s)
    go false e = ap (λ ws. ways_of s ∷ ws) e

-- the ways are the same
abbrev SameWays : State → State → Type 0
SameWays S T = ways T ≡ ways S

-- nothing is asked of a node
abbrev Any : Node → Node → Type 0
Any n m = Unit {0}

-- each move keeps them
way_moves : Moves Any SameWays
way_moves = record {
  same = λ S. refl;
  after = λ S T U a b. b ∙ a;
  commits = λ port e S n h g.
      kept_ways port (committed e) (λ s. ap (λ ps. (s.port, ps)) (sent_peers e s.queues))
      S.stations;
  requeues = λ from to items S.
      kept_ways from (with_queue to items)
      (λ s. ap (λ ps. (s.port, ps)) (requeued_peers to items s.queues)) S.stations;
}

-- and each event
step_ways : (table : List Class) (act : Acting) (S : State) (event : Event) →
    SameWays S (step table act S event).state
step_ways table act S event =
    by_any_step Any SameWays way_moves (λ n m f. tt) table act S (λ n m g. tt) event

-- the ports of ways
ways_ports : (ss : List Station) →
    map (λ (w : Ways). w.0) (map ways_of ss) ≡ map (λ (s : Station). s.port) ss
ways_ports [] = refl
ways_ports (s ∷ ss) = ap (λ ps. s.port ∷ ps) (ways_ports ss)

-- the queue to a peer as it opens
abbrev empty_queue : ℕ → Queue
empty_queue p = record { to = p; items = [] }

-- a station opens with a queue to each of these
opening_peers : (ps : List ℕ) → map (λ (q : Queue). q.to) (map empty_queue ps) ≡ ps
opening_peers [] = refl
opening_peers (p ∷ ps) = ap (λ qs. p ∷ qs) (opening_peers ps)

-- the stations open at the ports of their seats
opened_ports : (table : List Class) (all : List ℕ) (seats : List Seat) →
    map (λ (s : Station). s.port) (map (opening_station table all) seats)
    ≡ map (λ (s : Seat). s.node) seats
opened_ports table all [] = refl
opened_ports table all (s ∷ seats) = ap (λ ps. s.node ∷ ps) (opened_ports table all seats)

-- in every state that a machine comes to, the ways are those of the opening
ways_stay : (table : List Class) (act : Acting) (seats : List Seat) (events : List Event) →
    SameWays (opening table seats) (reached table act seats events)
ways_stay table act seats events =
    holds_of_reached table act (SameWays (opening table seats))
    (λ T event h. step_ways table act T event ∙ h) seats events refl

-- and so are the ports
reached_ports : (table : List Class) (act : Acting) (seats : List Seat) (events : List Event) →
    ports (reached table act seats events) ≡ map (λ (x : Seat). x.node) (by_port seats)
reached_ports table act seats events =
    sym (ways_ports (reached table act seats events).stations)
    ∙ ap (map (λ (w : Ways). w.0)) (ways_stay table act seats events)
    ∙ ways_ports (opening table seats).stations
    ∙ opened_ports table (map (λ (x : Seat). x.node) (by_port seats)) (by_port seats)

-- Each station has a queue to each other port
pub record QueuesStand (S : State) : Type 0 where
  pub each : (s : Station) → IsIn S.stations s → peers_of s ≡ others (ports S) s.port

-- that is so in every state that a machine comes to
pub reached_queues : (table : List Class) (act : Acting) (seats : List Seat)
    (events : List Event) → QueuesStand (reached table act seats events)
reached_queues table act seats events = record {
  each = λ s i.
      let at = images_in ways_of (opening table seats).stations (ways_of s)
      (subst (λ ws. IsIn ws (ways_of s)) stay (in_images ways_of S.stations s i)) in
      let seat = images_in (opening_station table all) sorted at.0 at.1 in
      ap (λ (w : Ways). w.1) (sym at.2)
      ∙ ap peers_of (sym seat.2)
      ∙ opening_peers (others all seat.0.node)
      ∙ ap (others all) (ap (λ (t : Station). t.port) seat.2 ∙ ap (λ (w : Ways). w.0) at.2)
      ∙ ap (λ ps. others ps s.port) (sym same);
}
  where
    S : State
    S = reached table act seats events

    sorted : List Seat
    sorted = by_port seats

    all : List ℕ
    all = map (λ x. x.node) sorted

    stay : ways S ≡ ways (opening table seats)
    stay = ways_stay table act seats events

    same : ports S ≡ all
    same = reached_ports table act seats events

-- and all ports differ
pub reached_differ : (table : List Class) (act : Acting) (seats : List Seat)
    (events : List Event) → IsWorld table seats →
    IsDistinct (λ (p q : ℕ). p == q) (ports (reached table act seats events))
reached_differ table act seats events world =
    let all = map (λ (x : Seat). x.node) (by_port seats) in
    let below = AllPairs-from_increasing all (by_port_rises table seats world) in
    subst (IsDistinct (λ (p q : ℕ). p == q)) (sym (reached_ports table act seats events))
    (IsDistinct-from_AllPairs Decides-eqb all
    (λ i j d le within is. let less = below i j d le within in omega (arith, less, is)))
