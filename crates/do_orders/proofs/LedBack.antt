-- In every state that a machine comes to, each open end has the queue that leads to it.
use Rattle.std.proofs.Common.{◌≡◌, ◌==◌, ◌&&◌, ◌||◌, ℕ, Bool, true, false, cond, not, List, [], ◌∷◌}
use Rattle.std.proofs.Common.{map, refl, sym, ap, ◌∙◌, arith}
use Rattle.std.specs.Prelude.{None, Option, Some, find, option_and_then, option_map}
use Rattle.std.{specs.List.list_any, proofs.lemmas.{Bool.eqb-true, Grind.common_steps}}
use Rattle.do_base.specs.declared.events.event.Event.{Event}
use Rattle.do_class.specs.Class.{Class}
use Rattle.do_machine.specs.{State.{is_open, node, queue, queue_to}, Step.step}
use Rattle.do_machine.specs.World.{by_port, opening, opening_station, others}
use Rattle.do_machine.specs.declared.{node.Node.Node, state.{Seat.Seat, State.State}}
use Rattle.do_machine.{specs.{declared.state.Station.Station, run.Run.Acting}, proofs.Bools.fails}
use Rattle.do_facts.proofs.{OpeningAsNet.opened, machine.follows.Steps.by_any_step}
use Rattle.do_facts.proofs.machine.passing.Linked.{Any, QueuesStay, found_for, queue_moves}
use Rattle.do_facts.proofs.steps.NodesAtHome.{was_there}
use Rattle.do_orders.proofs.TakesMove.{open_of}

-- A node's end is closed towards each port from which no queue leads to it
pub record LedBack (S : State) : Type 0 where
  pub back : (port peer : ℕ) (n : Node) → node S port ≡ Some n → queue S peer port ≡ None →
      is_open n peer ≡ false

-- each event leaves the queues to open ends
pub step_led : (table : List Class) (act : Acting) (S : State) (event : Event) → LedBack S →
    LedBack (step table act S event).state
step_led table act S event led = record {
  back = λ port peer m here none.
      let was = was_there table act S event port m here (node S port) refl in
      let gone : QueuesStay S (step table act S event).state =
      by_any_step Any QueuesStay queue_moves (λ n k f. tt) table act S (λ n k g. tt) event in
      let closed = led.back port peer was.0 was.1 (gone peer port none) in
      fails (is_open m peer) (λ ends. no was.0 peer (was.2.ends peer ends) closed);
}
  where
    no : (n : Node) (peer : ℕ) → is_open n peer ≡ true → is_open n peer ≡ false → ⊥
    no n peer a b = cc

-- ---- as a machine opens

-- a port is among ports
abbrev among : ℕ → List ℕ → Bool
among k ps = list_any (λ p. p == k) ps

-- the other ports are those that are not the port
others_are : (port k : ℕ) (ps : List ℕ) → among k (others ps port) ≡ (among k ps && not (k == port))
others_are port k [] = refl
others_are port k (p ∷ ps) = go (p == port) refl (others_are port k ps)
  where
    go : (b : Bool) → (p == port) ≡ b → among k (others ps port) ≡ (among k ps && not (k == port)) →
        among k (cond (not b) (p ∷ others ps port) (others ps port))
        ≡ (((p == k) || among k ps) && not (k == port))
    go true e r = grind (arith, common_steps, e, r)
    go false e r = grind (arith, common_steps, e, r)

module _ (table : List Class) (all : List ℕ) where
  -- the station that opens at a port
  abbrev at : List Seat → ℕ → Option Station
  at seats port = find (λ s. port == s.port) (map (opening_station table all) seats)

  -- the port of a node that opens is among those of the seats
  seated : (seats : List Seat) (port : ℕ) (n : Node) →
      option_map (λ s. s.node) (at seats port) ≡ Some n →
      among port (map (λ s. s.node) seats) ≡ true
  seated [] port n h = absurd (cc)
  seated (s ∷ seats) port n h = go (port == s.node) refl (seated seats port n) h
    where
      go : (b : Bool) → (port == s.node) ≡ b →
          (option_map (λ s. s.node) (at seats port) ≡ Some n →
          among port (map (λ s. s.node) seats) ≡ true) →
          option_map (λ s. s.node) (cond b (Some (opening_station table all s)) (at seats port))
          ≡ Some n →
          among port (map (λ s. s.node) (s ∷ seats)) ≡ true
      go true e r k =
          let same : (s.node == port) ≡ true = grind (arith, common_steps, e) in
          ap (λ b. b || among port (map (λ s. s.node) seats)) same
      go false e r k =
          let other : (s.node == port) ≡ false = grind (arith, common_steps, e) in
          ap (λ b. b || among port (map (λ s. s.node) seats)) other ∙ r k

  -- where no queue leads from a port of the seats, the other port is none of the others'
  no_queue : (seats : List Seat) (peer port : ℕ) →
      among peer (map (λ s. s.node) seats) ≡ true →
      option_and_then (λ s. queue_to port s) (at seats peer) ≡ None →
      among port (others all peer) ≡ false
  no_queue [] peer port h k = absurd (cc)
  no_queue (s ∷ seats) peer port h k = go (peer == s.node) refl (no_queue seats peer port) h k
    where
      go : (b : Bool) → (peer == s.node) ≡ b →
          (among peer (map (λ s. s.node) seats) ≡ true →
          option_and_then (λ s. queue_to port s) (at seats peer) ≡ None →
          among port (others all peer) ≡ false) →
          ((s.node == peer) || among peer (map (λ s. s.node) seats)) ≡ true →
          option_and_then (λ s. queue_to port s)
          (cond b (Some (opening_station table all s)) (at seats peer)) ≡ None →
          among port (others all peer) ≡ false
      go true e r h k =
          ap (λ p. among port (others all p)) (eqb-true peer s.node e)
          ∙ found_for port (others all s.node) k
      go false e r h k =
          let other : (s.node == peer) ≡ false = grind (arith, common_steps, e) in
          r (ap (λ b. b || among peer (map (λ s. s.node) seats)) (sym other) ∙ h) k

-- an end that is open and closed is none
apart_tests : (x y b : Bool) → x ≡ true → (y && not b) ≡ true → (x && not b) ≡ false → ⊥
apart_tests true true true p q r = cc
apart_tests true true false p q r = cc
apart_tests true false b p q r = cc
apart_tests false y b p q r = cc

-- a machine opens so
pub opening_led : (table : List Class) (seats : List Seat) → LedBack (opening table seats)
opening_led table seats = record {
  back = λ port peer n here none.
      let sorted = by_port seats in
      let all = map (λ (s : Seat). s.node) sorted in
      let ends : n.open_to ≡ others all port =
      opened table all (λ p m. m.open_to ≡ others all p) (λ s. refl) sorted port n here in
      fails (is_open n peer) (λ reached.
      let towards = sym (others_are port peer all) ∙ ap (among peer) (sym ends) ∙ reached in
      let seated_too = open_of (among peer all) (not (peer == port)) towards in
      let from = no_queue table all sorted peer port seated_too none in
      no port peer (among port all) (among peer all) (seated table all sorted port n here) towards
      (sym (others_are peer port all) ∙ from));
}
  where
    no : (port peer : ℕ) (x y : Bool) → x ≡ true → (y && not (peer == port)) ≡ true →
        (x && not (port == peer)) ≡ false → ⊥
    no port peer x y p q r =
        let same : (port == peer) ≡ (peer == port) = grind (arith, common_steps) in
        apart_tests x y (peer == port) p q (ap (λ b. x && not b) (sym same) ∙ r)
