-- The stations of a state are found at their ports, and their queues at their peers.
use Rattle.std.proofs.Common.{◌≡◌, ◌==◌, ◌∙◌, ℕ, Some, sym, ap, subst}
use Rattle.std.specs.{Prelude.{find, not, option_and_then, option_map}, List.IsDistinct}
use Rattle.do_agreement.proofs.agreement.SnapshotsAgree.{all_found}
use Rattle.do_machine.specs.{Lists.IsIn, State.{node, ports, queue, queue_to, station}}
use Rattle.do_machine.specs.declared.state.{Queue.Queue, State.State, Station.Station}
use Rattle.do_net_named.proofs.{QueuesStand.QueuesStand, StandAlone.{chosen_distinct, each_in}}

module _ (S : State) (distinct : IsDistinct (λ (p q : ℕ). p == q) (ports S)) (s : Station)
    (i : IsIn S.stations s) where
  -- each station is found at its port
  station_found : station S s.port ≡ Some s
  station_found =
      each_in (λ (t : Station). station S t.port ≡ Some t) S.stations s
      (all_found (λ (t : Station). t.port) S.stations distinct) i

  -- so is its node
  pub node_found : node S s.port ≡ Some s.node
  node_found = ap (option_map (λ (t : Station). t.node)) station_found

  -- and each of its queues
  pub queue_found : QueuesStand S → (q : Queue) → IsIn s.queues q →
      queue S s.port q.to ≡ Some q.items
  queue_found queues q j =
      ap (option_and_then (queue_to q.to)) station_found
      ∙ ap (option_map (λ (x : Queue). x.items))
      (each_in (λ (x : Queue). find (λ (y : Queue). x.to == y.to) s.queues ≡ Some x) s.queues q
      (all_found (λ (x : Queue). x.to) s.queues
      (subst (IsDistinct (λ (x y : ℕ). x == y)) (sym (queues.each s i))
      (chosen_distinct (λ p. not (p == s.port)) (ports S) distinct))) j)
