-- What a state has is among what it names and what a check lists of it.
use Rattle.std.proofs.Common.{◌≡◌, ◌==◌, ◌∙◌, ℕ, true, List, map, refl, sym, subst}
use Rattle.std.specs.Prelude.{None, Option, Some, option_and_then, option_map}
use Rattle.std.{specs.List.{find, flat_map, list_any}, proofs.lemmas.Bool.eqb-true}
use Rattle.do_base.specs.names.Names.{ObjectName}
use Rattle.do_leaks.{specs.Heap.heap_of, proofs.Named.{in_left, in_right}}
use Rattle.do_lost.specs.Named.{item_names, named, node_names, queue_names, serves, station_names}
use Rattle.do_machine.specs.declared.{item.Item.Item, node.{Node.Node, Stored.Stored}}
use Rattle.do_machine.specs.{declared.state.{Queue.Queue, State.State, Station.Station}, Lists.IsIn}
use Rattle.do_machine.specs.State.{node, queue, queue_to, station}
use Rattle.do_machine.specs.check.Snapshot.{node_line, object_line, snapshot}
use Rattle.do_packet.specs.Met.{has_object}
use Rattle.do_trace.specs.declared.outcome.{NodeLine.NodeLine, ObjLine.ObjLine}
use Rattle.do_cycles.proofs.InLists.{any_passes, found_in, images_in, in_images, in_joined}
use Rattle.do_cycles.proofs.InLists.{joined_in, named_by_any}

-- two values that are there are one
same_some : {X : Type 0} {a b : X} → Some a ≡ Some b → a ≡ b
same_some e = cc

-- the station of a node
pub station_of : (S : State) (port : ℕ) (n : Node) → node S port ≡ Some n →
    (s : Station) × IsIn S.stations s × (s.port ≡ port) × (s.node ≡ n)
station_of S port n h = go (station S port) refl h
  where
    go : (found : Option Station) → station S port ≡ found →
        option_map (λ s. s.node) found ≡ Some n →
        (s : Station) × IsIn S.stations s × (s.port ≡ port) × (s.node ≡ n)
    go None e q = absurd (cc)
    go (Some s) e q =
        let r = found_in (λ (t : Station). port == t.port) S.stations s e in
        (s, r.0, sym (eqb-true port s.port r.1), same_some q)

-- the queue of items to a peer
queue_of : (s : Station) (to : ℕ) (items : List Item) → queue_to to s ≡ Some items →
    (q : Queue) × IsIn s.queues q × (q.to ≡ to) × (q.items ≡ items)
queue_of s to items h = go (find (λ q. to == q.to) s.queues) refl h
  where
    go : (found : Option Queue) → find (λ q. to == q.to) s.queues ≡ found →
        option_map (λ q. q.items) found ≡ Some items →
        (q : Queue) × IsIn s.queues q × (q.to ≡ to) × (q.items ≡ items)
    go None e f = absurd (cc)
    go (Some q) e f =
        let r = found_in (λ (x : Queue). to == x.to) s.queues q e in
        (q, r.0, sym (eqb-true to q.to r.1), same_some f)

-- the queue of items from a node to another, in its station
pub queue_at : (S : State) (from to : ℕ) (items : List Item) → queue S from to ≡ Some items →
    (s : Station) × IsIn S.stations s × (s.port ≡ from)
    × ((q : Queue) × IsIn s.queues q × (q.to ≡ to) × (q.items ≡ items))
queue_at S from to items h = go (station S from) refl h
  where
    go : (found : Option Station) → station S from ≡ found →
        option_and_then (λ s. queue_to to s) found ≡ Some items →
        (s : Station) × IsIn S.stations s × (s.port ≡ from)
        × ((q : Queue) × IsIn s.queues q × (q.to ≡ to) × (q.items ≡ items))
    go None e f = absurd (cc)
    go (Some s) e f =
        let r = found_in (λ (t : Station). from == t.port) S.stations s e in
        (s, r.0, sym (eqb-true from s.port r.1), queue_of s to items f)

module _ (S : State) (o : ObjectName) where
  -- what a station names is named
  pub station_named : (s : Station) → IsIn S.stations s →
      has_object (station_names S s) o ≡ true → has_object (named S) o ≡ true
  station_named s i h =
      named_by_any (station_names S) S.stations o
      ∙ any_passes (λ t. has_object (station_names S t) o) S.stations s i h

  -- what the node of a station names is named
  pub own_named : (s : Station) → IsIn S.stations s → has_object (node_names s.node) o ≡ true →
      has_object (named S) o ≡ true
  own_named s i h =
      station_named s i
      (in_left (node_names s.node) (flat_map (queue_names S s.port) s.queues) o h)

  -- what a node names is named
  pub node_named : (port : ℕ) (n : Node) → node S port ≡ Some n →
      has_object (node_names n) o ≡ true → has_object (named S) o ≡ true
  node_named port n e h =
      let s = station_of S port n e in
      own_named s.0 s.1 (subst (λ m. has_object (node_names m) o ≡ true) (sym s.3) h)

  -- what an item of a queue names is named
  pub item_named : (from to : ℕ) (items : List Item) → queue S from to ≡ Some items →
      list_any (λ item. has_object (item_names from to (serves S to from) item) o) items ≡ true →
      has_object (named S) o ≡ true
  item_named from to items e h =
      let at = queue_at S from to items e in
      let s : Station = at.0 in
      let q : Queue = at.3.0 in
      let there : has_object (queue_names S from q) o ≡ true =
      named_by_any (item_names from q.to (serves S q.to from)) q.items o
      ∙ subst (λ p. list_any (λ item. has_object (item_names from p (serves S p from) item) o)
      q.items ≡ true) (sym at.3.2)
      (subst (λ xs. list_any (λ item. has_object (item_names from to (serves S to from) item) o)
      xs ≡ true) (sym at.3.3) h) in
      station_named s at.1
      (in_right (node_names s.node) (flat_map (queue_names S s.port) s.queues) o
      (named_by_any (queue_names S s.port) s.queues o
      ∙ any_passes (λ x. has_object (queue_names S s.port x) o) s.queues q at.3.1
      (subst (λ p. has_object (queue_names S p q) o ≡ true) (sym at.2) there)))

-- what a node stores is listed
pub stored_listed : (S : State) (port : ℕ) (n : Node) → node S port ≡ Some n → (x : Stored) →
    IsIn n.heap x → IsIn (heap_of (snapshot S)) (object_line n x)
stored_listed S port n e x i =
    let at = station_of S port n e in
    let s : Station = at.0 in
    in_joined (λ (m : NodeLine). m.objects) (map (λ (t : Station). node_line S t.node) S.stations)
    (node_line S n) (object_line n x)
    (subst (λ m. IsIn (map (λ (t : Station). node_line S t.node) S.stations) (node_line S m)) at.3
    (in_images (λ (t : Station). node_line S t.node) S.stations s at.1))
    (in_images (object_line n) n.heap x i)

-- what is listed is stored
pub listed_stored : (S : State) (line : ObjLine) → IsIn (heap_of (snapshot S)) line →
    (s : Station) × IsIn S.stations s
    × ((x : Stored) × IsIn s.node.heap x × (object_line s.node x ≡ line))
listed_stored S line i =
    let at = joined_in (λ (m : NodeLine). m.objects)
    (map (λ (t : Station). node_line S t.node) S.stations) line i in
    let from = images_in (λ (t : Station). node_line S t.node) S.stations at.0 at.1 in
    let s : Station = from.0 in
    let there : IsIn (map (object_line s.node) s.node.heap) line =
    subst (λ (m : NodeLine). IsIn m.objects line) (sym from.2) at.2 in
    (s, from.1, images_in (object_line s.node) s.node.heap line there)
