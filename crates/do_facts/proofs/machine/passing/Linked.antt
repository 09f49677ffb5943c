-- A node's end is closed where it has no queue.
use Rattle.std.proofs.Common.{◌≡◌, ◌==◌, ℕ, false, List, [], ◌∷◌, map, refl, arith}
use Rattle.std.specs.{Prelude.{None, Some, option_and_then, option_map}, List.{find, list_any}}
use Rattle.std.proofs.lemmas.Grind.{common_steps}
use Rattle.do_base.specs.declared.events.event.Event.{Event}
use Rattle.do_class.specs.Class.{Class}
use Rattle.do_machine.specs.declared.{node.Node.Node, state.{Effect.Effect, Queue.Queue, Seat.Seat}}
use Rattle.do_machine.specs.{declared.state.State.State, Commit.commit}
use Rattle.do_machine.specs.{State.{is_open, node, queue, queue_to}, Step.step}
use Rattle.do_machine.specs.World.{by_port, opening, opening_station, others}
use Rattle.do_facts.specs.laws.Entries.{HasQueues}
use Rattle.do_machine.specs.run.Run.{Acting}
use Rattle.do_facts.proofs.machine.{Queues.queue_behind, follows.{Moves.Moves, Steps.by_any_step}}
use Rattle.do_facts.proofs.{machine.passing.Lookups.none_goes, steps.NodesAtHome.was_there}

-- no queue goes
abbrev pub QueuesStay : State → State → Type 0
QueuesStay S T = (a b : ℕ) → queue T a b ≡ None → queue S a b ≡ None

-- nothing is asked of a node
abbrev pub Any : Node → Node → Type 0
Any n m = Unit {0}

-- no queue goes by an effect
pub commit_leaves : (port : ℕ) (e : Effect) (S : State) → QueuesStay S (commit port e S)
commit_leaves port e S a b h = grind (arith, h, queue_behind port a b e S.stations)

-- each move leaves the queues
pub queue_moves : Moves Any QueuesStay
queue_moves = record {
  same = λ S a b h. h;
  after = λ S T U x y a b h. x a b (y a b h);
  commits = λ port e S n h g. commit_leaves port e S;
  requeues = λ from to items S. none_goes from to items S;
}

-- each event leaves a node its queues
pub queues_stay : (table : List Class) (act : Acting) (S : State) (event : Event) → HasQueues S →
    HasQueues (step table act S event).state
queues_stay table act S event old = record {
  closed = λ port peer m here none.
      let was = was_there table act S event port m here (node S port) refl in
      let gone : QueuesStay S (step table act S event).state =
      by_any_step Any QueuesStay queue_moves (λ n k f. tt) table act S (λ n k g. tt) event in
      let closed = old.closed port peer was.0 was.1 (gone port peer none) in
      grind (arith, closed, was.2.ends peer);
}

-- ---- as a machine opens

-- where a queue opens to each peer, none is missing
pub found_for : (peer : ℕ) (ps : List ℕ) →
    option_map (λ (q : Queue). q.items)
    (find (λ (q : Queue). peer == q.to) (map (λ p. record { to = p; items = [] }) ps)) ≡ None →
    list_any (λ p. p == peer) ps ≡ false
found_for peer [] h = refl
found_for peer (p ∷ ps) h = grind (arith, common_steps, h, found_for peer ps)

-- a station that opens has a queue for each open end
opens_linked : (table : List Class) (all : List ℕ) (seats : List Seat) (port peer : ℕ) (n : Node) →
    option_map (λ s. s.node) (find (λ s. port == s.port) (map (opening_station table all) seats))
    ≡ Some n →
    option_and_then (λ s. queue_to peer s)
    (find (λ s. port == s.port) (map (opening_station table all) seats)) ≡ None →
    is_open n peer ≡ false
opens_linked table all [] port peer n h q = absurd (cc)
opens_linked table all (s ∷ seats) port peer n h q =
    let here = found_for peer (others all s.node) in
    grind (arith, h, q, here, opens_linked table all seats port peer n)

-- a machine opens with its queues
pub opening_queues : (table : List Class) (seats : List Seat) → HasQueues (opening table seats)
opening_queues table seats = record {
  closed = λ port peer n h q.
      let sorted = by_port seats in
      opens_linked table (map (λ s. s.node) sorted) sorted port peer n h q;
}
