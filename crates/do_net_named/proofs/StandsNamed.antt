-- A network that stands for a state names what the state names, so a search in it finds the same.
use Rattle.std.proofs.Common.{◌≡◌, ◌==◌, ◌∙◌, ℕ, List, ap, subst, sym}
use Rattle.std.specs.List.{AllByRecursion, IsDistinct}
use Rattle.do_base.specs.{names.Names.ObjectName, declared.events.event.Event.Event}
use Rattle.do_class.specs.Class.{Class}
use Rattle.do_agreement.proofs.agreement.SnapshotsAgree.{snapshots_same}
use Rattle.do_agreement.proofs.told.EachState.{AllKept, reached_all}
use Rattle.do_facts.specs.{Made.EnteredAreStored, Reached.reached}
use Rattle.do_facts.proofs.links.EntriesStored.{entered_stored, reached_entries}
use Rattle.do_lost.specs.Named.{named, quiet}
use Rattle.do_leaks.specs.Leaks.{leaks}
use Rattle.do_machine.specs.{State.ports, check.Snapshot.snapshot, declared.state.Seat.Seat}
use Rattle.do_machine.specs.{declared.state.State.State, run.Run.Acting}
use Rattle.do_net.specs.OneMachine.{StandsFor}
use Rattle.do_network.specs.{Net.Net, Snapshot.net_snapshot}
use Rattle.do_packet.specs.Met.{has_object}
use Rattle.do_net_named.specs.{Lost.{HasClassesOf, net_still}, Named.net_named}
use Rattle.do_net_named.proofs.{LeaksAlike.leaks_alike, LostAlike.{classes_same, still_so}}
use Rattle.do_net_named.proofs.NetAsState.{net_named_same}
use Rattle.do_net_named.proofs.QueuesStand.{QueuesStand, reached_differ, reached_queues}

module _ (table : List Class) (act : Acting) (N : Net) (S : State)
    (stands : StandsFor table act N S) where
  -- what holds of every state that the machine comes to holds of this one
  of_state : (P : State → Type 0) →
      ((seats : List Seat) (events : List Event) → P (reached table act seats events)) → P S
  of_state P each = subst P (sym stands.comes) (each stands.seats stands.events)

  -- what each state keeps
  all : AllKept S
  all = of_state AllKept (reached_all table act)

  -- what is in use is stored
  entered : EnteredAreStored S
  entered =
      of_state EnteredAreStored (λ seats events. entered_stored (reached table act seats events)
      (reached_entries table act seats events))

  -- each node has its queues
  queues : QueuesStand S
  queues = of_state QueuesStand (reached_queues table act)

  -- all ports differ
  differ : IsDistinct (λ (p q : ℕ). p == q) (ports S)
  differ =
      subst (λ T. IsDistinct (λ (p q : ℕ). p == q) (ports T)) (sym stands.comes)
      (reached_differ table act stands.seats stands.events stands.world)

  -- both name the same
  pub named_as_one : (o : ObjectName) → has_object (net_named table N) o ≡ has_object (named S) o
  named_as_one =
      net_named_same table stands.world.classes N S stands.agrees differ queues entered
      all.home.each

  -- a search finds the same that nothing can reach
  pub leaks_as_one : leaks (net_snapshot N) (net_named table N) ≡ leaks (snapshot S) (named S)
  leaks_as_one =
      ap (λ s. leaks s (net_named table N)) (snapshots_same table N S stands.agrees differ)
      ∙ leaks_alike (snapshot S) (net_named table N) (named S) named_as_one

  -- of the same classes
  pub classes_as_one :
      AllByRecursion (HasClassesOf N S) (leaks (net_snapshot N) (net_named table N))
  classes_as_one =
      subst (AllByRecursion (HasClassesOf N S)) (sym leaks_as_one)
      (classes_same table N S stands.agrees all differ (named S))

  -- and both are still alike
  pub still_as_one : net_still N ≡ quiet S
  still_as_one = still_so table N S stands.agrees queues differ
