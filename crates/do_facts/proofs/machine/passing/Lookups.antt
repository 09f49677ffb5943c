-- Which items wait where, once those of one queue are others.
use Rattle.std.{proofs.Common.{◌≡◌, ◌==◌, ℕ, false, List, arith}, specs.Prelude.{None, Some}}
use Rattle.std.proofs.lemmas.Grind.{common_steps}
use Rattle.do_machine.specs.declared.{item.Item.Item, state.{State.State, Station.Station}}
use Rattle.do_machine.specs.{Lists.change_first, State.{change, queue, with_queue}}
use Rattle.do_facts.proofs.machine.Queues.{queue_among, queue_with}

-- the stations with other items in one queue
abbrev changed : ℕ → ℕ → List Item → List Station → List Station
changed from to items ss = change_first (λ s. from == s.port) (with_queue to items) ss

module _ (from to : ℕ) (items : List Item) where
  -- queues to another peer stay
  pub other_stays : (ss : List Station) (a b : ℕ) → (b == to) ≡ false →
      queue_among a b (changed from to items ss) ≡ queue_among a b ss
  other_stays ss a b h = grind (arith, common_steps, h, queue_with from to items a b ss)

  -- those of another station stay
  pub elsewhere_stays : (ss : List Station) (a b : ℕ) → (a == from) ≡ false →
      queue_among a b (changed from to items ss) ≡ queue_among a b ss
  elsewhere_stays ss a b h = grind (arith, common_steps, h, queue_with from to items a b ss)

  -- the queue itself has the other items
  pub that_changed : (waiting : List Item) (ss : List Station) →
      queue_among from to ss ≡ Some waiting →
      queue_among from to (changed from to items ss) ≡ Some items
  that_changed waiting ss h =
      grind (arith, common_steps, h, queue_with from to items from to ss)

  -- no queue goes
  pub none_goes : (S : State) (a b : ℕ) →
      queue (change from (with_queue to items) S) a b ≡ None → queue S a b ≡ None
  none_goes S a b h =
      grind (arith, common_steps, h, queue_with from to items a b S.stations)
