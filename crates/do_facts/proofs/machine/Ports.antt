-- The nodes of a state stand by rising port.
use Rattle.std.proofs.Common.{◌≡◌, ℕ, List, [], ◌∷◌, map, refl, ap, ◌∙◌, subst, sym, arith}
use Rattle.std.specs.{Prelude.◌==◌, List.Sorted.IsStrictlyIncreasing}
use Rattle.do_base.specs.declared.events.event.Event.{Event}
use Rattle.do_class.specs.Class.{Class}
use Rattle.do_machine.specs.declared.state.{Seat.Seat, State.State, Station.Station}
use Rattle.do_machine.specs.{Commit.committed, Lists.change_first, State.{ports, with_queue}}
use Rattle.do_machine.specs.{Step.step, World.{IsWorld, by_port, opening, opening_station}}
use Rattle.do_machine.{specs.run.Run.Acting, proofs.Inserting.by_port_rises}
use Rattle.do_facts.proofs.machine.{follows.{Moves.Moves, Steps.by_any_step}, passing.Linked.Any}

-- a station that changes but for its port leaves the ports as they are
kept_ports : (port : ℕ) (f : Station → Station) → ((s : Station) → (f s).port ≡ s.port) →
    (ss : List Station) →
    map (λ s. s.port) (change_first (λ s. port == s.port) f ss) ≡ map (λ s. s.port) ss
kept_ports port f h [] = refl
kept_ports port f h (s ∷ ss) = grind (arith, h s, kept_ports port f h ss)

-- the ports are the same
abbrev SamePorts : State → State → Type 0
SamePorts S T = ports T ≡ ports S

-- each move keeps the ports
port_moves : Moves Any SamePorts
port_moves = record {
  same = λ S. refl;
  after = λ S T U a b. b ∙ a;
  commits = λ port e S n h g. kept_ports port (committed e) (λ s. refl) S.stations;
  requeues = λ from to items S. kept_ports from (with_queue to items) (λ s. refl) S.stations;
}

-- each event keeps the ports
pub step_ports : (table : List Class) (act : Acting) (S : State) (event : Event) →
    ports (step table act S event).state ≡ ports S
step_ports table act S event =
    by_any_step Any SamePorts port_moves (λ n m f. tt) table act S (λ n m g. tt) event

-- stations open at the ports of their seats
opened_ports : (table : List Class) (all : List ℕ) (seats : List Seat) →
    map (λ s. s.port) (map (opening_station table all) seats) ≡ map (λ s. s.node) seats
opened_ports table all [] = refl
opened_ports table all (s ∷ seats) = ap (λ ps. s.node ∷ ps) (opened_ports table all seats)

-- a machine opens with its nodes by rising port
pub opening_rises : (table : List Class) (seats : List Seat) → IsWorld table seats →
    IsStrictlyIncreasing (ports (opening table seats))
opening_rises table seats world =
    let sorted = by_port seats in
    subst IsStrictlyIncreasing (sym (opened_ports table (map (λ s. s.node) sorted) sorted))
    (by_port_rises table seats world)
