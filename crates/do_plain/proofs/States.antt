-- What waits between the nodes of a machine, and what each event shows, tells of selectors alone.
use Rattle.do_machine.specs.declared.item.Item.TheVariants as items
use Rattle.std.proofs.Common.{◌≡◌, ℕ, List, [], ◌∷◌, map, refl, sym, subst}
use Rattle.std.specs.Prelude.{None, Option, Some, find, option_and_then, option_map, ◌==◌}
use Rattle.std.specs.List.{AllByRecursion, insert}
use Rattle.do_base.specs.declared.events.event.Event.{Event}
use Rattle.do_base.specs.declared.events.event.Event.TheVariants.{Close, Run, Start, Timeout}
use Rattle.do_class.specs.{Class.Class, Table.IsTable}
use Rattle.do_machine.specs.declared.{item.Item.Item, node.Node.Node, state.Effect.Effect}
use Rattle.do_machine.specs.declared.state.{Queue.Queue, Seat.Seat, State.State, Station.Station}
use Rattle.do_machine.specs.declared.state.{Parcel.Parcel, Stepped.Stepped}
use Rattle.do_machine.specs.Commit.{commit, committed, items_to, moved, with_sent}
use Rattle.do_machine.specs.{Context.{around, context}, Start.start_effect}
use Rattle.do_machine.specs.State.{change, queue, queue_to, station, with_items, with_queue}
use Rattle.do_machine.specs.{Step.step, World.{by_port, opening, opening_station, others}}
use Rattle.do_machine.specs.{check.Blocks.{followed, steps}, ends.TimeOut.time_out}
use Rattle.do_machine.specs.{held.Leaving.leaving, run.Run.{Acting, run_effect}}
use Rattle.do_facts.proofs.EachOfLists.{each_changed, each_filtered, each_inserted, each_joined}
use Rattle.do_facts.proofs.EachOfLists.{each_mapped, each_weaker, found_is}
use Rattle.do_facts.proofs.steps.EachIsStep.{step_is}
use Rattle.do_facts.proofs.walk.Possible.{by_begins, by_giving_up, there}
use Rattle.do_facts.specs.steps.IsStep.{Acts, Checks, IsRuleOf, IsStep, Loses, Skips, Takes}
use Rattle.do_plain.proofs.Effects.{ItemSelects, Selects, ShownSelects, alone, leaving_selects}
use Rattle.do_plain.proofs.{Effects.run_selects, Takes.{closes, take_selects}}

-- what waits in a queue
abbrev QueueSelects : Queue → Type 0
QueueSelects q = AllByRecursion ItemSelects q.items

-- what waits in the queues of a station
abbrev StationSelects : Station → Type 0
StationSelects s = AllByRecursion QueueSelects s.queues

-- all that waits
abbrev pub StateSelects : State → Type 0
StateSelects S = AllByRecursion StationSelects S.stations

-- What an event shows and what waits then
pub record StepSelects (s : Stepped) : Type 0 where
  pub shown : AllByRecursion ShownSelects s.outcome.shown
  pub state : StateSelects s.state

-- ---- changes

-- what is sent to a peer
sent_to : (to : ℕ) (sent : List Parcel) → AllByRecursion (λ p. ItemSelects p.item) sent →
    AllByRecursion ItemSelects (items_to to sent)
sent_to to sent h =
    each_mapped ItemSelects (λ (p : Parcel). p.item) _
    (each_filtered (λ (p : Parcel). ItemSelects p.item) _ sent h)

-- an effect is committed
commits : (port : ℕ) (e : Effect) → Selects e → (S : State) → StateSelects S →
    StateSelects (commit port e S)
commits port e h S k =
    each_changed StationSelects _ (committed e)
    (λ s g. each_mapped QueueSelects (with_sent e.sent) s.queues
    (each_weaker QueueSelects (λ q. QueueSelects (with_sent e.sent q))
    (λ q i. each_joined ItemSelects q.items (items_to q.to e.sent) i (sent_to q.to e.sent h.sent))
    s.queues g)) S.stations k

-- other items wait in a queue
requeues : (from to : ℕ) (waiting : List Item) → AllByRecursion ItemSelects waiting →
    (S : State) → StateSelects S → StateSelects (change from (with_queue to waiting) S)
requeues from to waiting h S k =
    each_changed StationSelects _ (with_queue to waiting)
    (λ s g. each_changed QueueSelects _ (with_items waiting) (λ q i. h) s.queues g) S.stations k

-- a node moves
moves : (port : ℕ) (S : State) (e : Effect) → Selects e → StateSelects S →
    StepSelects (moved port S e)
moves port S e h k =
    let U = commit port e S in
    let d = leaving (around U e.node).entry e.node in
    let left = leaving_selects (around U e.node).entry e.node in
    record {
      shown = each_joined ShownSelects e.shown d.shown h.shown left.shown;
      state = commits port d left U (commits port e h S k);
    }

-- what waits between two nodes
waits_select : (S : State) → StateSelects S → (from to : ℕ) (waiting : List Item) →
    queue S from to ≡ Some waiting → AllByRecursion ItemSelects waiting
waits_select S h from to waiting e = by (station S from) refl e
  where
    by_queue : (s : Station) → StationSelects s → (found : Option Queue) →
        find (λ q. to == q.to) s.queues ≡ found →
        option_map (λ (q : Queue). q.items) found ≡ Some waiting →
        AllByRecursion ItemSelects waiting
    by_queue s k None r q = absurd (cc (q))
    by_queue s k (Some it) r q =
        let same : it.items ≡ waiting = cc (q) in
        subst (AllByRecursion ItemSelects) same
        (found_is QueueSelects (λ q. to == q.to) s.queues it k r)

    by : (found : Option Station) → station S from ≡ found →
        option_and_then (λ s. queue_to to s) found ≡ Some waiting →
        AllByRecursion ItemSelects waiting
    by None r q = absurd (cc (q))
    by (Some s) r q =
        by_queue s (found_is StationSelects (λ s. from == s.port) S.stations s h r)
        (find (λ q. to == q.to) s.queues) refl q

-- ---- events

module _ (table : List Class) (ok : IsTable table) (act : Acting) where
  -- the effect of an event's rule
  ruled : (S : State) (event : Event) (n : Node) (e : Effect) → IsRuleOf table act S event n e →
      Selects e
  ruled S (Start port selector values) n e q =
      there Selects (start_effect table selector values n) e
      (by_begins Selects table selector values n (λ i. alone _)) q
  ruled S (Run port) n e q =
      there Selects (run_effect act (context table S n)) e
      (run_selects act (context table S n) ok) q
  ruled S (Close port peer) n e q = subst Selects (sym q.1) (closes peer n)
  ruled S (Timeout port) n e q =
      there Selects (time_out n) e
      (by_giving_up Selects n (λ call peer what i below. alone _)) q
  ruled S _ n e q = absurd q

  -- what an event comes to
  came : (S : State) → StateSelects S → (event : Event) (s : Stepped) →
      IsStep table act S event s → StepSelects s
  came S h event s (Skips e) = subst StepSelects (sym e) (record { shown = tt; state = h })
  came S h event s (Acts port n d own here rule e) =
      subst StepSelects (sym e) (moves port S d (ruled S event n d rule) h)
  came S h event s (Takes port from n item rest d is here rule waits e) =
      let w = waits_select S h from port (item ∷ rest) waits in
      let T = change from (with_queue port rest) S in
      subst StepSelects (sym e)
      (moves port T d
      (subst Selects (sym rule.1) (take_selects (context table T n) from item w.0))
      (requeues from port rest w.1 S h))
  came S h event s (Loses from to after waiting is waits few e) =
      subst StepSelects (sym e) (record {
        shown = tt;
        state = requeues from to (insert waiting after (items.End []))
            (each_inserted ItemSelects waiting after (items.End []) tt
            (waits_select S h from to waiting waits)) S h;
      })
  came S h event s (Checks is e) = subst StepSelects (sym e) (record { shown = tt; state = h })

  -- a step
  pub step_selects : (S : State) → StateSelects S → (event : Event) →
      StepSelects (step table act S event)
  step_selects S h event = came S h event (step table act S event) (step_is S table act event)

  -- events one after another
  pub steps_select : (events : List Event) (s : Stepped) → StepSelects s →
      StepSelects (steps table act events s)
  steps_select [] s h = h
  steps_select (e ∷ es) s h =
      let d = step table act s.state e in
      let k = step_selects s.state h.state e in
      steps_select es (followed s d) (record {
        shown = each_joined ShownSelects s.outcome.shown d.outcome.shown h.shown k.shown;
        state = k.state;
      })

-- ---- the opening

-- empty queues
empty_queues : (ports : List ℕ) →
    AllByRecursion QueueSelects (map (λ p. record { to = p; items = [] }) ports)
empty_queues [] = tt
empty_queues (p ∷ ports) = (tt, empty_queues ports)

-- stations as they open
opened : (table : List Class) (ports : List ℕ) (seats : List Seat) →
    AllByRecursion StationSelects (map (opening_station table ports) seats)
opened table ports [] = tt
opened table ports (s ∷ seats) =
    (empty_queues (others ports s.node), opened table ports seats)

-- a machine as it opens
pub opening_selects : (table : List Class) (seats : List Seat) →
    StateSelects (opening table seats)
opening_selects table seats =
    opened table (map (λ s. s.node) (by_port seats)) (by_port seats)
