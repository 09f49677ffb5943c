-- States whose nodes and queues have only what a message can carry.
use Rattle.std.proofs.Common.{◌≡◌, ◌==◌, ◌≤◌, ℕ, Bool, true, false, cond, List, [], ◌∷◌, filter}
use Rattle.std.proofs.{Common.{map, arith, refl, subst, sym}, lemmas.Bool.eqb-true}
use Rattle.std.specs.Prelude.{None, Option, Some, length, option_and_then, option_map, nat_le, suc}
use Rattle.std.specs.{Prelude.{zero, not}, List.{AllByRecursion, find}}
use Rattle.do_sched.specs.Good.{IsPort}
use Rattle.do_class.specs.{Class.Class, declared.ids.ClassId.ClassId}
use Rattle.do_machine.specs.declared.{item.Item.Item, node.{Node.Node, Stored.Stored}}
use Rattle.do_machine.specs.declared.state.{Effect.Effect, Parcel.Parcel, Queue.Queue, State.State}
use Rattle.do_machine.specs.declared.state.Station.{Station}
use Rattle.do_machine.specs.Commit.{born, commit, committed, items_to, moved, with_sent}
use Rattle.do_machine.specs.{Context.{around, context}, State.{change, class_given, class_of}}
use Rattle.do_machine.specs.State.{is_known, node, queue, queue_to, station, with_items, with_queue}
use Rattle.do_machine.specs.held.Kept.{kept, struck, struck_by, stays}
use Rattle.do_machine.specs.held.{Leaving.{freeing, leaving, left}, Refers.node_objects}
use Rattle.do_packet.specs.Met.{has_object}
use Rattle.do_base.specs.names.Names.{ObjectName}
use Rattle.do_limits.specs.{Sendable.IsOfTable, SendableStates.{ItemIsSendable, NodeIsSendable}}
use Rattle.do_limits.specs.SendableStates.{StateIsSendable, HasSerial, ObjectIsSendable}
use Rattle.do_limits.specs.SendableStates.{QueueIsSendable, StationIsSendable}
use Rattle.do_limits.proofs.Effects.{EffectIsSendable, ParcelIsSendable, holding_more}
use Rattle.do_limits.proofs.{Senders.{ContextIsSendable, slots_known}, Signatures.one_at}
use Rattle.do_facts.proofs.EachOfLists.{each_filtered, each_joined, each_mapped, each_weaker}
use Rattle.do_limits.proofs.Lists.{each_changed, found_by}

-- ---- what follows a step

-- objects that are kept
struck_sendable : (table : List Class) (rounds : ℕ) (entry : ℕ → ℕ → Bool) (n : Node)
    (heap : List Stored) → AllByRecursion (ObjectIsSendable table) heap →
    AllByRecursion (ObjectIsSendable table) (struck_by rounds entry n heap)
struck_sendable table zero entry n heap h = h
struck_sendable table (suc rounds) entry n heap h =
    let fewer = struck entry n heap in
    let k = each_filtered (ObjectIsSendable table) (stays entry n heap) heap h in
    go (length fewer == length heap) (struck_sendable table rounds entry n fewer k)
  where
    go : (b : Bool) →
        AllByRecursion (ObjectIsSendable table) (struck_by rounds entry n (struck entry n heap)) →
        AllByRecursion (ObjectIsSendable table)
        (elim b [ true ↦ heap | false ↦ struck_by rounds entry n (struck entry n heap) ])
    go true k = h
    go false k = k

-- objects that are left
leaves : (table : List Class) (port : ℕ) (os : List ObjectName) → AllByRecursion HasSerial os →
    AllByRecursion (ParcelIsSendable table port) (map left os)
leaves table port [] h = tt
leaves table port (o ∷ os) h = (h.0, leaves table port os h.1)

-- what a node frees and leaves
pub leaving_sendable : {table : List Class} {port : ℕ} → (entry : ℕ → ℕ → Bool) (n : Node) →
    NodeIsSendable table port n → EffectIsSendable table port (leaving entry n)
leaving_sendable {table} {port} entry n h =
    let kept_by = has_object (node_objects (freeing (kept entry n) n).node) in
    record {
      node = record {
        heap = struck_sendable table (length n.heap) entry n n.heap h.heap;
        stack = h.stack;
        numbers = holding_more port n h.numbers (filter kept_by n.held)
            (each_filtered HasSerial kept_by n.held h.numbers.1.1.1.0);
      };
      sent = leaves table port (filter (λ o. not (kept_by o)) n.held)
          (each_filtered HasSerial (λ o. not (kept_by o)) n.held h.numbers.1.1.1.0);
    }

-- ---- states

-- the items of parcels to a port
items_sendable : (table : List Class) (port to : ℕ) (sent : List Parcel) →
    AllByRecursion (ParcelIsSendable table port) sent →
    AllByRecursion (ItemIsSendable table port to) (items_to to sent)
items_sendable table port to [] h = tt
items_sendable table port to (p ∷ ps) h =
    go (p.to == to) refl (items_sendable table port to ps h.1)
  where
    go : (b : Bool) → (p.to == to) ≡ b →
        AllByRecursion (ItemIsSendable table port to) (items_to to ps) →
        AllByRecursion (ItemIsSendable table port to)
        (map (λ (q : Parcel). q.item)
        (cond b (p ∷ filter (λ q. q.to == to) ps) (filter (λ q. q.to == to) ps)))
    go true e k =
        (subst (λ k. ItemIsSendable table port k p.item) (eqb-true p.to to e) h.0, k)
    go false e k = k

-- the classes of new objects
born_known : (table : List Class) (next : ℕ) (heap : List Stored) →
    AllByRecursion (ObjectIsSendable table) heap → AllByRecursion (IsOfTable table)
    (map (λ (x : Stored). x.class) (filter (λ x. nat_le next x.serial) heap))
born_known table next heap h =
    each_mapped (IsOfTable table) (λ (x : Stored). x.class)
    (filter (λ x. nat_le next x.serial) heap)
    (each_filtered (λ (x : Stored). IsOfTable table x.class) (λ x. nat_le next x.serial) heap
    (each_weaker (ObjectIsSendable table) (λ (x : Stored). IsOfTable table x.class)
    (λ x k. slots_known table x.class (length x.slots) k.whole) heap h))

-- a station after an effect of its node
committed_sendable : (table : List Class) (e : Effect) (s : Station) →
    EffectIsSendable table s.port e → StationIsSendable table s →
    StationIsSendable table (committed e s)
committed_sendable table e s h k = record {
  port = k.port;
  node = h.node;
  queues = each_mapped (QueueIsSendable table s.port) (with_sent e.sent) s.queues
      (each_weaker (QueueIsSendable table s.port)
      (λ q. QueueIsSendable table s.port (with_sent e.sent q))
      (λ q g. each_joined (ItemIsSendable table s.port q.to) q.items (items_to q.to e.sent) g
      (items_sendable table s.port q.to e.sent h.sent)) s.queues k.queues);
  classes = each_joined (IsOfTable table) s.classes (born s.node.next_serial e.node) k.classes
      (born_known table s.node.next_serial e.node.heap h.node.heap);
}

-- a state with the station of a port changed
changes : (table : List Class) (port : ℕ) (f : Station → Station) →
    ((s : Station) → port ≡ s.port → StationIsSendable table s → StationIsSendable table (f s)) →
    (S : State) → StateIsSendable table S → StateIsSendable table (change port f S)
changes table port f k S h = record {
  stations = each_changed (StationIsSendable table) (λ s. port == s.port) f
      (λ s e g. k s (eqb-true port s.port e) g) S.stations h.stations;
}

-- a state with other items in a queue
pub requeues : (table : List Class) (from to : ℕ) (waiting : List Item) →
    AllByRecursion (ItemIsSendable table from to) waiting → (S : State) →
    StateIsSendable table S → StateIsSendable table (change from (with_queue to waiting) S)
requeues table from to waiting k S h =
    changes table from (with_queue to waiting) (λ s same g. record {
      port = g.port;
      node = g.node;
      queues = each_changed (QueueIsSendable table s.port) (λ q. to == q.to) (with_items waiting)
          (λ q e i.
          subst (λ x. AllByRecursion (ItemIsSendable table x q.to) waiting) same
          (subst (λ x. AllByRecursion (ItemIsSendable table from x) waiting)
          (eqb-true to q.to e) k)) s.queues g.queues;
      classes = g.classes;
    }) S h

-- a node moves
pub moves : (table : List Class) (port : ℕ) (S : State) (e : Effect) →
    EffectIsSendable table port e → StateIsSendable table S →
    StateIsSendable table (moved port S e).state
moves table port S e h k =
    let U = commit port e S in
    let d = leaving (around U e.node).entry e.node in
    let left = leaving_sendable (around U e.node).entry e.node h.node in
    changes table port (committed d)
    (λ s same g. committed_sendable table d s
    (subst (λ x. EffectIsSendable table x d) same left) g) U
    (changes table port (committed e)
    (λ s same g. committed_sendable table e s
    (subst (λ x. EffectIsSendable table x e) same h) g) S k)

-- the station of a port
station_there : (table : List Class) (S : State) → StateIsSendable table S → (port : ℕ)
    (s : Station) → station S port ≡ Some s → StationIsSendable table s × (port ≡ s.port)
station_there table S h port s e =
    let k = found_by (StationIsSendable table) (λ s. port == s.port) S.stations s h.stations e in
    (k.0, eqb-true port s.port k.1)

-- the node of a port
pub node_sendable : (table : List Class) (S : State) → StateIsSendable table S → (port : ℕ)
    (n : Node) → node S port ≡ Some n → NodeIsSendable table port n × IsPort port
node_sendable table S h port n e = go (station S port) refl e
  where
    go : (found : Option Station) → station S port ≡ found →
        option_map (λ s. s.node) found ≡ Some n → NodeIsSendable table port n × IsPort port
    go None q e = absurd (cc (e))
    go (Some s) q e =
        let same : s.node ≡ n = cc (e) in
        let k = station_there table S h port s q in (
          subst (λ x. NodeIsSendable table x n) (sym k.1)
              (subst (NodeIsSendable table s.port) same k.0.node),
          subst IsPort (sym k.1) k.0.port,
        )

-- the class of an object
class_there : (table : List Class) (S : State) → StateIsSendable table S → (o : ObjectName)
    (class : ClassId) → class_of S o ≡ Some class →
    IsOfTable table class × ((1 ≤ o.serial) × IsPort o.node)
class_there table S h o class e = go (station S o.node) refl e
  where
    given : (classes : List ClassId) → AllByRecursion (IsOfTable table) classes →
        (serial : ℕ) → class_given classes serial ≡ Some class →
        IsOfTable table class × (1 ≤ serial)
    given classes h zero e = absurd (cc (e))
    given classes h (suc k) e =
        (one_at (IsOfTable table) classes k class h e, omega arith)

    go : (found : Option Station) → station S o.node ≡ found →
        option_and_then (λ s. class_given s.classes o.serial) found ≡ Some class →
        IsOfTable table class × ((1 ≤ o.serial) × IsPort o.node)
    go None q e = absurd (cc (e))
    go (Some s) q e =
        let k = station_there table S h o.node s q in
        let g = given s.classes k.0.classes o.serial e in
        (g.0, (g.1, subst IsPort (sym k.1) k.0.port))

-- what a node of a state is judged by
pub context_sendable : (table : List Class) (S : State) → StateIsSendable table S → (port : ℕ)
    (n : Node) → node S port ≡ Some n → ContextIsSendable (context table S n)
context_sendable table S h port n here =
    let k = node_sendable table S h port n here in
    record {
      node = subst (λ x. NodeIsSendable table x n) (sym k.0.numbers.0) k.0;
      port = subst IsPort (sym k.0.numbers.0) k.1;
      seen = λ o class e. go o class (is_known n o) e;
    }
  where
    go : (o : ObjectName) (class : ClassId) (b : Bool) →
        cond b (class_of S o) None ≡ Some class →
        IsOfTable table class × ((1 ≤ o.serial) × IsPort o.node)
    go o class true e = class_there table S h o class e
    go o class false e = absurd (cc (e))

-- the items between two nodes
pub queue_sendable : (table : List Class) (S : State) → StateIsSendable table S → (from to : ℕ)
    (waiting : List Item) → queue S from to ≡ Some waiting →
    AllByRecursion (ItemIsSendable table from to) waiting
queue_sendable table S h from to waiting e = go (station S from) refl e
  where
    by_queue : (s : Station) → StationIsSendable table s → from ≡ s.port →
        (found : Option Queue) → find (λ q. to == q.to) s.queues ≡ found →
        option_map (λ (q : Queue). q.items) found ≡ Some waiting →
        AllByRecursion (ItemIsSendable table from to) waiting
    by_queue s k here None r e = absurd (cc (e))
    by_queue s k here (Some q) r e =
        let same : q.items ≡ waiting = cc (e) in
        let it = found_by (QueueIsSendable table s.port) (λ q. to == q.to) s.queues q k.queues r
        in
        subst (λ w. AllByRecursion (ItemIsSendable table from to) w) same
        (subst (λ x. AllByRecursion (ItemIsSendable table from x) q.items)
        (sym (eqb-true to q.to it.1))
        (subst (λ x. AllByRecursion (ItemIsSendable table x q.to) q.items) (sym here) it.0))

    go : (found : Option Station) → station S from ≡ found →
        option_and_then (λ s. queue_to to s) found ≡ Some waiting →
        AllByRecursion (ItemIsSendable table from to) waiting
    go None q e = absurd (cc (e))
    go (Some s) q e =
        let k = station_there table S h from s q in
        by_queue s k.0 k.1 (find (λ q. to == q.to) s.queues) refl e
