-- Where nothing is on its way and all ends are open, a state is settled.
use Rattle.std.proofs.Common.{◌≡◌, ◌==◌, ◌∙◌, ◌++◌, true, List, [], ◌∷◌, map, length, refl, sym, ap}
use Rattle.std.{proofs.Common.{inl, inr, arith}, specs.List.flat_map}
use Rattle.std.proofs.lemmas.{Bool.Decides.nat_tests, List.append-nil}
use Rattle.do_base.specs.{declared.events.event.Event.Event, names.Names.ObjectName}
use Rattle.do_class.specs.Class.{Class}
use Rattle.do_lost.specs.Named.{is_idle, item_names, queue_names, quiet, root_names, serves}
use Rattle.do_lost.specs.Named.{station_names}
use Rattle.do_machine.specs.declared.{node.{Lend.Lend, Wanted.Wanted}, state.Queue.Queue}
use Rattle.do_machine.specs.{declared.state.{Seat.Seat, State.State, Station.Station}, Lists.IsIn}
use Rattle.do_machine.specs.{held.Refers.stack_objects, run.Run.Acting}
use Rattle.do_facts.specs.Reached.{reached}
use Rattle.do_quiet.specs.{Keeping.NodesKeep, Quiet.{AllEndsOpen, NothingLent, NothingWaits}}
use Rattle.do_quiet.proofs.{NodesKeep.reached_nodes_keep, QuietStates.quiet_lends_nothing}
use Rattle.do_quiet.proofs.StoredKept.{stored_kept_by_all}
use Rattle.do_cycles.specs.Settled.{IsSettled, rooted_at}
use Rattle.do_cycles.proofs.{Among.queue_at, StationsOfPorts.{IsFoundOrOpens, reached_stations}}
use Rattle.do_cycles.proofs.InLists.{all_pass, joined_alike, joined_none}

-- a list without items
no_items : {X : Type 0} (xs : List X) → (length xs == 0) ≡ true → xs ≡ []
no_items [] h = refl
no_items (x ∷ xs) h = grind (arith, nat_tests, h)

module _ (S : State) (idle : quiet S ≡ true) where
  -- a queue of a station is empty
  queue_empty : (s : Station) → IsIn S.stations s → (q : Queue) → IsIn s.queues q → q.items ≡ []
  queue_empty s i q j =
      no_items q.items
      (all_pass (λ (x : Queue). length x.items == 0) s.queues q
      (all_pass is_idle S.stations s idle i) j)

  -- so nothing waits
  nothing_waits : NothingWaits S
  nothing_waits = record {
    empty = λ from to items e.
        let at = queue_at S from to items e in
        sym at.3.3 ∙ queue_empty at.0 at.1 at.3.0 at.3.1;
  }

  -- a queue names nothing
  queue_names_none : (s : Station) → IsIn S.stations s → (q : Queue) → IsIn s.queues q →
      queue_names S s.port q ≡ []
  queue_names_none s i q j =
      ap (flat_map (item_names s.port q.to (serves S q.to s.port))) (queue_empty s i q j)

  -- where a node lends and asks for nothing, its station names what its root and invocations name
  names_rooted : (s : Station) → IsIn S.stations s → s.node.lent ≡ [] → s.node.asked ≡ [] →
      station_names S s ≡ rooted_at s
  names_rooted s i lends asks =
      let root = root_names s.node in
      let stack = stack_objects s.node.stack in
      let objects : List Lend → List ObjectName = map (λ l. l.object) in
      let homes : List Wanted → List ObjectName = map (λ w. w.object) in
      ap (λ os. root ++ stack ++ objects s.node.lent ++ homes s.node.asked ++ os)
      (joined_none (queue_names S s.port) s.queues (queue_names_none s i))
      ∙ append-nil (root ++ stack ++ objects s.node.lent ++ homes s.node.asked)
      ∙ ap (λ ws. root ++ stack ++ objects s.node.lent ++ homes ws) asks
      ∙ append-nil (root ++ stack ++ objects s.node.lent)
      ∙ ap (λ ls. root ++ stack ++ objects ls) lends
      ∙ append-nil (root ++ stack)

  module _ (lends : NothingLent S)
      (stations : (s : Station) → IsIn S.stations s → IsFoundOrOpens S s) where
    -- so it is at each station
    each_rooted : (s : Station) → IsIn S.stations s → station_names S s ≡ rooted_at s
    each_rooted s i = elim (stations s i) [
      | inl e ↦ names_rooted s i (lends.lent s.port s.node e) (lends.asked s.port s.node e)
      | inr o ↦ names_rooted s i o.lent o.asked
    ]

    -- and the state is settled
    settled : NodesKeep S → IsSettled S
    settled keep = record {
      lends = lends;
      starts = joined_alike (station_names S) rooted_at S.stations each_rooted;
      stored = stored_kept_by_all S keep nothing_waits lends;
    }

-- in every state that a machine comes to with all ends open
pub reached_settled : (table : List Class) (act : Acting) (seats : List Seat)
    (events : List Event) → AllEndsOpen (reached table act seats events) →
    quiet (reached table act seats events) ≡ true →
    IsSettled (reached table act seats events)
reached_settled table act seats events ends idle =
    let S = reached table act seats events in
    settled S idle (quiet_lends_nothing table seats act events ends (nothing_waits S idle))
    (reached_stations table act seats events) (reached_nodes_keep table act seats events)
