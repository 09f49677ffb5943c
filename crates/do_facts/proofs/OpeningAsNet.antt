-- How nets are as a machine opens.
use Rattle.std.proofs.Common.{◌≡◌, ◌==◌, ℕ, Bool, true, false, cond, List, [], ◌∷◌, map, arith}
use Rattle.std.proofs.{Common.{refl, sym, subst}, lemmas.Bool.eqb-true}
use Rattle.std.specs.{Prelude.{None, Option, Some, option_and_then, option_map}, List.find}
use Rattle.do_class.specs.Class.{Class}
use Rattle.do_machine.specs.declared.{node.Node.Node, state.{Queue.Queue, Seat.Seat}}
use Rattle.do_machine.specs.State.{node, queue_to}
use Rattle.do_machine.specs.World.{by_port, opening, opening_node, opening_station, others}
use Rattle.do_facts.specs.View.{View, net_of, part_seen, wire_seen}

module _ (table : List Class) (all : List ℕ) where
  -- what holds of each node as it opens, for its port, holds of each of stations that open
  pub opened : (P : ℕ → Node → Type 0) → ((s : Seat) → P s.node (opening_node table all s)) →
      (seats : List Seat) (port : ℕ) (n : Node) →
      option_map (λ s. s.node)
      (find (λ s. port == s.port) (map (opening_station table all) seats)) ≡ Some n → P port n
  opened P holds [] port n h = absurd (cc)
  opened P holds (s ∷ seats) port n h =
      go (port == s.node) refl (opened P holds seats port n) h
    where
      go : (b : Bool) → (port == s.node) ≡ b →
          (option_map (λ s. s.node)
          (find (λ s. port == s.port) (map (opening_station table all) seats)) ≡ Some n →
          P port n) →
          option_map (λ s. s.node) (cond b (Some (opening_station table all s))
          (find (λ s. port == s.port) (map (opening_station table all) seats))) ≡ Some n → P port n
      go true e k h =
          let same : opening_node table all s ≡ n = cc in
          let here : s.node ≡ port = sym (eqb-true port s.node e) in
          subst (λ p. P p n) here (subst (P s.node) same (holds s))
      go false e k h = k h

  module _ {P A : Type 0} (view : View P A) where
    -- queues that open are empty
    queues_empty : (to : ℕ) (ps : List ℕ) →
        wire_seen view (option_map (λ (q : Queue). q.items)
        (find (λ (q : Queue). to == q.to) (map (λ p. record { to = p; items = [] }) ps))) ≡ []
    queues_empty to [] = refl
    queues_empty to (p ∷ ps) = grind (arith, queues_empty to ps)

    -- and so are those of each of stations that open
    wires_empty : (seats : List Seat) (from to : ℕ) →
        wire_seen view (option_and_then (λ s. queue_to to s)
        (find (λ s. from == s.port) (map (opening_station table all) seats))) ≡ []
    wires_empty [] from to = refl
    wires_empty (s ∷ seats) from to =
        grind (arith, queues_empty to (others all s.node), wires_empty seats from to)

module _ (table : List Class) (seats : List Seat) {P A : Type 0} (view : View P A) where
  -- the ports of the nodes, in their order
  abbrev ports : List ℕ
  ports = map (λ s. s.node) (by_port seats)

  -- nothing is on its way as a machine opens
  pub opening_wires : (from to : ℕ) → (net_of view (opening table seats)).wire from to ≡ []
  opening_wires from to = wires_empty table ports view (by_port seats) from to

  -- what holds of each node as it opens, and of a port without one, holds of each part
  pub opening_parts : (Q : ℕ → P → Type 0) → ((port : ℕ) → Q port view.absent) →
      ((all : List ℕ) (s : Seat) → Q s.node (view.part (opening_node table all s))) →
      (port : ℕ) → Q port ((net_of view (opening table seats)).part port)
  opening_parts Q absent there port = go (node (opening table seats) port) refl
    where
      go : (found : Option Node) → node (opening table seats) port ≡ found →
          Q port (part_seen view found)
      go None h = absent port
      go (Some n) h =
          opened table ports (λ p m. Q p (view.part m)) (there ports) (by_port seats) port n h
