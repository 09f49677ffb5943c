-- What a state names is what its nodes, its queues and the ends that closed tell of name.
use Rattle.do_machine.specs.declared.item.Item.TheVariants as items
use Rattle.std.proofs.Common.{◌≡◌, ◌==◌, ◌∙◌, ◌++◌, ◌&&◌, ◌||◌, ◌⊎◌, ℕ, Bool, true, false, List, []}
use Rattle.std.proofs.Common.{◌∷◌, map, Option, Some, None, refl, sym, ap, subst, inl, inr}
use Rattle.std.specs.{Prelude.{is_some, not}, List.{IsDistinct, filter, flat_map, list_any}}
use Rattle.std.proofs.lemmas.Bool.{and_parts, eqb-true}
use Rattle.do_base.specs.names.Names.{ObjectName}
use Rattle.do_cycles.proofs.{Among.station_of, InLists.{any_passes, found_in, images_in, in_images}}
use Rattle.do_cycles.proofs.InLists.{in_joined, named_by_any}
use Rattle.do_facts.specs.Made.{EnteredAreStored}
use Rattle.do_leaks.proofs.Named.{in_either, in_left, in_right, same_is, same_self}
use Rattle.do_lost.specs.Named.{item_names, named, node_names, queue_names, serves, station_names}
use Rattle.do_machine.specs.Entry.{has_entry, is_holder, is_on_its_way_back, is_reached}
use Rattle.do_machine.specs.{Entry.is_under_way, Items.{Released, is_released, named_as, naming}}
use Rattle.do_machine.specs.{Items.released, Lists.{IsIn, some_passes}, Objects.object_at}
use Rattle.do_machine.specs.{State.{is_open, node, own, ports, queue, stored}, World.others}
use Rattle.do_machine.specs.check.Snapshot.{entries_for, entry_of, node_line, own_objects, snapshot}
use Rattle.do_machine.specs.declared.{item.Item.Item, node.{Node.Node, Stored.Stored}}
use Rattle.do_machine.specs.declared.state.{Queue.Queue, State.State, Station.Station}
use Rattle.do_machine.proofs.Bools.{or_right}
use Rattle.do_packet.specs.Met.{has_object, same_object}
use Rattle.do_trace.specs.declared.outcome.Entry.{Entry}
use Rattle.do_net_named.proofs.{QueuesStand.QueuesStand, StandAlone.in_chosen}
use Rattle.do_net_named.proofs.{StationsFound.{node_found, queue_found}, StateNamed.between_names}
use Rattle.do_net_named.proofs.StateNamed.{items_names, names_at, state_named, told_at}
use Rattle.do_net_named.proofs.FoundIsNamed.{among_all, at_nodes, between, found_is_named}
use Rattle.do_net_named.proofs.FoundIsNamed.{passing_in, told}

-- one of two truths that imply one another
pub both_true : (a b : Bool) → (a ≡ true → b ≡ true) → (b ≡ true → a ≡ true) → a ≡ b
both_true true b f g = sym (f refl)
both_true false true f g = g refl
both_true false false f g = refl

-- two tests that pass
both_pass : (a b : Bool) → a ≡ true → b ≡ true → (a && b) ≡ true
both_pass true b f g = g
both_pass false b f g = absurd (cc)

-- and the other way
all_among : {X : Type 0} (f : X → List ObjectName) (xs : List X) (o : ObjectName) (x : X) →
    IsIn xs x → has_object (f x) o ≡ true → has_object (flat_map f xs) o ≡ true
all_among f xs o x i h = named_by_any f xs o ∙ any_passes (λ y. has_object (f y) o) xs x i h

-- an end releases what it names
end_releases : (to : ℕ) (serials : List ℕ) →
    named_as is_released (map (naming Released to) serials) ≡ map (object_at to) serials
end_releases to [] = refl
end_releases to (s ∷ serials) = ap (λ os. object_at to s ∷ os) (end_releases to serials)

-- An end that a node sent names nothing as long as its own end towards the peer is open
pub record EndsAreSilent (S : State) : Type 0 where
  pub each : (from to : ℕ) (serials : List ℕ) (sent : List Item) → queue S from to ≡ Some sent →
      IsIn sent (items.End serials) → serves S from to ≡ true → (o : ObjectName) →
      has_object (map (object_at to) serials) o ≡ false

module _ (S : State) (o : ObjectName) where
  -- what it names in any case, or by an end that is taken still
  named_by : (from to : ℕ) (b : Bool) (item : Item) →
      has_object (item_names from to b item) o ≡ true →
      (has_object (item_names from to false item) o ≡ true)
      ⊎ ((serials : List ℕ) × (b ≡ true) × (item ≡ items.End serials)
      × (has_object (map (object_at to) serials) o ≡ true))
  named_by from to true (items.End serials) h = inr (serials, refl, refl, h)
  named_by from to b _ h = inl h

  module _ (distinct : IsDistinct (λ (p q : ℕ). p == q) (ports S)) (queues : QueuesStand S)
      (entered : EnteredAreStored S) (silent : EndsAreSilent S)
      (home : (port : ℕ) (n : Node) → node S port ≡ Some n → n.port ≡ port) where
    -- a peer that has an entry of an object is told of, where its end is closed
    entry_told : (peer : ℕ) → has_entry S peer o ≡ true → serves S peer o.node ≡ false →
        has_object (told S) o ≡ true
    entry_told peer h shut = go (node S o.node) refl (entered.each peer o h)
      where
        -- by the peers that a node reaches
        reached : (n : Node) → node S o.node ≡ Some n → IsIn n.open_to peer
        reached n e =
            let parts = and_parts (is_reached S peer o) ((some_passes (is_holder o) (node S peer)
            || is_under_way S peer o) || is_on_its_way_back S peer o) h in
            let at = passing_in (λ p. p == peer) n.open_to
            (ap (some_passes (λ (m : Node). is_open m peer)) (sym e) ∙ parts.0) in
            subst (IsIn n.open_to) (eqb-true at.0 peer at.2) at.1

        go : (place : Option Node) → node S o.node ≡ place →
            some_passes (λ n. is_some (stored o.serial n.heap)) place ≡ true →
            has_object (told S) o ≡ true
        go None e k = absurd (cc)
        go (Some n) e k = there (stored o.serial n.heap) refl k
          where
            there : (x : Option Stored) → stored o.serial n.heap ≡ x → is_some x ≡ true →
                has_object (told S) o ≡ true
            there None q some = absurd (cc)
            there (Some x) q some =
                let at = found_in (λ (y : Stored). y.serial == o.serial) n.heap x q in
                let is : own n x.serial ≡ o =
                ap (λ p. object_at p x.serial) (home o.node n e)
                ∙ ap (object_at o.node) (eqb-true x.serial o.serial at.1) in
                let entry : Entry = entry_of peer o in
                let mine : IsIn (own_objects n) o =
                subst (IsIn (own_objects n)) is
                (in_images (λ (y : Stored). own n y.serial) n.heap x at.0) in
                let listed : IsIn (flat_map (entries_for S n) n.open_to) entry =
                in_joined (entries_for S n) n.open_to peer entry (reached n e)
                (in_images (entry_of peer) (filter (has_entry S peer) (own_objects n)) o
                (in_chosen (has_entry S peer) (own_objects n) o mine h)) in
                let kept = in_chosen (λ (y : Entry). not (serves S y.peer n.port))
                (flat_map (entries_for S n) n.open_to) entry listed
                (ap (λ p. not (serves S peer p)) (home o.node n e) ∙ ap not shut) in
                let line = station_of S o.node n e in
                all_among (told_at S) (snapshot S).nodes o (node_line S n)
                (subst (λ m. IsIn (snapshot S).nodes (node_line S m)) line.3
                (in_images (λ (s : Station). node_line S s.node) S.stations line.0 line.1))
                (any_passes (same_object o)
                (map (λ (y : Entry). y.object) (filter (λ (y : Entry). not (serves S y.peer n.port))
                (flat_map (entries_for S n) n.open_to))) o
                (in_images (λ (y : Entry). y.object) (filter (λ (y : Entry).
                not (serves S y.peer n.port)) (flat_map (entries_for S n) n.open_to)) entry kept)
                (same_self o))

    -- what an item on its way names is found
    item_found : (from to : ℕ) (sent : List Item) → queue S from to ≡ Some sent →
        IsIn (ports S) from → IsIn (others (ports S) from) to → (b : Bool) →
        serves S to from ≡ b → (item : Item) → IsIn sent item →
        has_object (item_names from to b item) o ≡ true → has_object (state_named S) o ≡ true
    item_found from to sent e i j b is item k h = go h
      where
        -- where it is named by more than an end
        plain : (x : Item) → IsIn sent x → has_object (item_names from to false x) o ≡ true →
            has_object (state_named S) o ≡ true
        plain x l q =
            in_left (at_nodes S ++ between S) (told S) o (in_right (at_nodes S) (between S) o
            (all_among (λ p. flat_map (between_names S p) (others (ports S) p)) (ports S) o from i
            (all_among (between_names S from) (others (ports S) from) o to j
            (ap (λ r. has_object (items_names from to r) o) e
            ∙ all_among (item_names from to false) sent o x l q))))

        -- by an end that is taken still
        ended : (serials : List ℕ) → IsIn sent (items.End serials) → serves S to from ≡ true →
            has_object (map (object_at to) serials) o ≡ true →
            has_object (state_named S) o ≡ true
        ended serials l q r =
            let one = passing_in (same_object o) (map (object_at to) serials) r in
            let at = images_in (object_at to) serials one.0 one.1 in
            let to_is : o.node ≡ to =
            ap (λ (x : ObjectName). x.node) (same_is o one.0 one.2 ∙ sym at.2) in
            in_right (at_nodes S ++ between S) (told S) o
            (entry_told from (entry to_is) (shut to_is (serves S from o.node) refl))
          where
            -- the end of its sender is closed
            shut : o.node ≡ to → (c : Bool) → serves S from o.node ≡ c → c ≡ false
            shut same false x = refl
            shut same true x = absurd (no r (silent.each from to serials sent e l
                (ap (serves S from) (sym same) ∙ x) o))
              where
                no : {c : Bool} → c ≡ true → c ≡ false → ⊥
                no u v = cc

            -- the object has an entry
            entry : o.node ≡ to → has_entry S from o ≡ true
            entry same = both_pass (is_reached S from o)
                ((some_passes (is_holder o) (node S from) || is_under_way S from o)
                || is_on_its_way_back S from o)
                (ap (λ p. serves S p from) same ∙ q)
                (or_right (some_passes (is_holder o) (node S from) || is_under_way S from o)
                (is_on_its_way_back S from o)
                (ap (λ p. some_passes (list_any (λ item. has_object (released from p item) o))
                (queue S from p)) same
                ∙ ap (some_passes (list_any (λ item. has_object (released from to item) o))) e
                ∙ any_passes (λ item. has_object (released from to item) o) sent
                (items.End serials) l (ap (λ os. has_object os o) (end_releases to serials) ∙ r)))

        go : has_object (item_names from to b item) o ≡ true → has_object (state_named S) o ≡ true
        go r = elim (named_by from to b item r) [
          | inl x ↦ plain item k x
          | inr x ↦ ended x.0 (subst (IsIn sent) x.2 k) (is ∙ x.1) x.3
        ]

    -- what a station names is found
    station_found : (s : Station) → IsIn S.stations s → has_object (station_names S s) o ≡ true →
        has_object (state_named S) o ≡ true
    station_found s i h =
        let port = in_images (λ (t : Station). t.port) S.stations s i in
        elim (in_either (node_names s.node) (flat_map (queue_names S s.port) s.queues) o h) [
          | inl x ↦ in_left (at_nodes S ++ between S) (told S) o (in_left (at_nodes S) (between S) o
              (all_among (λ p. names_at (node S p)) (ports S) o s.port port
              (ap (λ r. has_object (names_at r) o) (node_found S distinct s i) ∙ x)))
          | inr x ↦
              let at = among_all (queue_names S s.port) s.queues o x in
              let q : Queue = at.0 in
              let item = among_all (item_names s.port q.to (serves S q.to s.port)) q.items o at.2 in
              item_found s.port q.to q.items (queue_found S distinct s i queues q at.1) port
              (subst (λ ps. IsIn ps q.to) (queues.each s i)
              (in_images (λ (y : Queue). y.to) s.queues q at.1)) (serves S q.to s.port) refl item.0
              item.1 item.2
        ]

    -- all that is named is found
    named_is_found : has_object (named S) o ≡ true → has_object (state_named S) o ≡ true
    named_is_found h =
        let at = among_all (station_names S) S.stations o h in station_found at.0 at.1 at.2

    -- so both name the same
    pub named_alike : has_object (state_named S) o ≡ has_object (named S) o
    named_alike =
        both_true (has_object (state_named S) o) (has_object (named S) o) (found_is_named S o)
        named_is_found
