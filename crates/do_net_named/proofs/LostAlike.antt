-- A network is still where the state is with which it agrees, and has the classes of what is lost.
use Rattle.std.proofs.Common.{◌≡◌, ◌==◌, ◌∙◌, ◌&&◌, ℕ, Bool, true, false, cond, List, [], ◌∷◌}
use Rattle.std.proofs.Common.{length, map, Option, Some, None, refl, sym, ap, subst, inl, inr}
use Rattle.std.{proofs.Common.arith, specs.Prelude.{if◌then◌else◌, not, option_and_then}}
use Rattle.std.specs.{Prelude.option_map, List.{AllByRecursion, IsDistinct, list_all, list_any}}
use Rattle.std.proofs.lemmas.{Bool.Decides.nat_tests, List.length-map}
use Rattle.std.proofs.lemmas.List.{Elements.recursion_from_All, Folds.list_all-map}
use Rattle.do_base.specs.names.Names.{ObjectName}
use Rattle.do_class.specs.Class.{Class}
use Rattle.do_agreement.{specs.Agrees.Agrees, proofs.losses.LossFits.carried_length}
use Rattle.do_agreement.proofs.told.{ClassesKept.seen_right, EachState.AllKept}
use Rattle.do_cycles.proofs.Among.{listed_stored}
use Rattle.do_leaks.specs.{Heap.heap_of, Laws.AreLost, Leaks.leaks, declared.leak.Leak.Leak}
use Rattle.do_leaks.proofs.{Lost.each_lost, Named.same_is}
use Rattle.do_lost.specs.Named.{is_idle, quiet}
use Rattle.do_machine.specs.{Context.{context, own_class}, Lists.IsIn, State.{class_of, node, own}}
use Rattle.do_machine.specs.{State.{ports, queue, stored}, World.others, check.Snapshot.snapshot}
use Rattle.do_machine.specs.declared.{item.Item.Item, node.{Node.Node, Stored.Stored}}
use Rattle.do_machine.specs.declared.state.{Queue.Queue, State.State, Station.Station}
use Rattle.do_network.specs.{Links.Part, Net.{Net, channel, net_ports, part_at}, fits.Notes.Note}
use Rattle.do_packet.specs.Met.{same_object}
use Rattle.do_trace.specs.declared.outcome.ObjLine.{ObjLine}
use Rattle.do_net_named.specs.Lost.{HasClassesOf, is_still, net_class, net_still}
use Rattle.do_net_named.proofs.{NetAsState.sited, QueuesStand.QueuesStand, StandAlone.chosen_in}
use Rattle.do_net_named.proofs.{StationsFound.{node_found, queue_found}, FoundIsNamed.passing_in}

-- tests that agree at each element of a list pass alike
all_alike : {X : Type 0} (f g : X → Bool) (xs : List X) → ((x : X) → IsIn xs x → f x ≡ g x) →
    list_all f xs ≡ list_all g xs
all_alike f g [] h = refl
all_alike f g (x ∷ xs) h =
    let one = h x (inl refl) in
    let rest = all_alike f g xs (λ y i. h y (inr i)) in
    λ j. one j && rest j

-- nothing waits in a queue, if there is one
abbrev is_empty : Option (List Item) → Bool
is_empty None = true
is_empty (Some items) = length items == 0

module _ (table : List Class) (N : Net) (S : State) (agrees : Agrees table N S) where
  -- ---- whether anything is under way

  module _ (queues : QueuesStand S) (distinct : IsDistinct (λ (p q : ℕ). p == q) (ports S)) where
    -- between two nodes
    still_between : (from to : ℕ) (p q : Part) → part_at N from ≡ Some p → part_at N to ≡ Some q →
        (from == to) ≡ false → is_still (channel N from to) ≡ is_empty (queue S from to)
    still_between from to p q h k apart =
        let way = agrees.tallies.counts.channels from to p q h k apart in
        let xs : List Note = agrees.tallies.under_way from to in
        ap is_still way.stands
        ∙ ap (λ n. n == 0) (ap length way.carries.waiting
        ∙ carried_length way.carries.tables.front xs
        ∙ sym (length-map xs (λ (x : Note). x.item)))
        ∙ ap is_empty (sym (ap (option_map (λ c. map (λ (x : Note). x.item) xs)) way.stands)
        ∙ agrees.tallies.shows.queues from to)

    -- from one node
    still_from : (from : ℕ) → IsIn (net_ports N) from →
        list_all (λ to. is_still (channel N from to)) (others (net_ports N) from)
        ≡ list_all (λ to. is_empty (queue S from to)) (others (net_ports N) from)
    still_from from i =
        all_alike (λ to. is_still (channel N from to)) (λ to. is_empty (queue S from to))
        (others (net_ports N) from)
        (λ to j.
        let at = chosen_in (λ p. not (p == from)) (net_ports N) to j in
        let p = sited N from i in
        let q = sited N to at.0 in
        still_between from to p.0 q.0 p.1 q.1 (apart to at.1))
      where
        apart : (to : ℕ) → not (to == from) ≡ true → (from == to) ≡ false
        apart to e = grind (arith, nat_tests, e)

    -- from the node of a station
    idle_so : (s : Station) → IsIn S.stations s →
        list_all (λ to. is_empty (queue S s.port to)) (others (ports S) s.port) ≡ is_idle s
    idle_so s i =
        ap (list_all (λ to. is_empty (queue S s.port to))) (sym (queues.each s i))
        ∙ list_all-map (λ to. is_empty (queue S s.port to)) (λ (q : Queue). q.to) s.queues
        ∙ all_alike (λ (q : Queue). is_empty (queue S s.port q.to))
        (λ (q : Queue). length q.items == 0) s.queues
        (λ q j. ap is_empty (queue_found S distinct s i queues q j))

    -- in the whole
    pub still_so : net_still N ≡ quiet S
    still_so =
        all_alike
        (λ from. list_all (λ to. is_still (channel N from to)) (others (net_ports N) from))
        (λ from. list_all (λ to. is_empty (queue S from to)) (others (net_ports N) from))
        (net_ports N) still_from
        ∙ ap (λ ps. list_all (λ from. list_all (λ to. is_empty (queue S from to)) (others ps from))
        ps) agrees.tallies.shows.ports
        ∙ list_all-map (λ from. list_all (λ to. is_empty (queue S from to)) (others (ports S) from))
        (λ (s : Station). s.port) S.stations
        ∙ all_alike (λ (s : Station). list_all (λ to. is_empty (queue S s.port to))
        (others (ports S) s.port)) is_idle S.stations idle_so

  -- ---- the classes of what is lost

  module _ (all : AllKept S) (distinct : IsDistinct (λ (p q : ℕ). p == q) (ports S)) where
    -- the class of an object that is listed
    class_so : (o : ObjectName) → list_any (λ (x : ObjLine). same_object x.oid o)
        (heap_of (snapshot S)) ≡ true → net_class N o ≡ class_of S o
    class_so o h =
        let line = passing_in (λ (x : ObjLine). same_object x.oid o) (heap_of (snapshot S)) h in
        let at = listed_stored S line.0 line.1 in
        let s : Station = at.0 in
        let y : Stored = at.2.0 in
        let is : own s.node y.serial ≡ o =
        ap (λ (x : ObjLine). x.oid) at.2.2 ∙ same_is line.0.oid o line.2 in
        let here = node_found S distinct s at.1 in
        let home = all.home.each s.port s.node here in
        subst (λ k. net_class N k ≡ class_of S k) is
        (stored_so s here home y at.2.1 (stored y.serial s.node.heap) refl)
      where
        -- a network's class by the machine's node
        by_node : (k : ObjectName) (found : Option Part) →
            option_and_then (λ (p : Part). own_class p.own.node k.serial) found
            ≡ option_and_then (λ (n : Node). own_class n k.serial)
            (option_map (λ (p : Part). p.own.node) found)
        by_node k None = refl
        by_node k (Some p) = refl

        -- something is stored under the serial of what is stored
        there : (xs : List Stored) (y : Stored) → IsIn xs y → stored y.serial xs ≡ None → ⊥
        there [] y i e = absurd i
        there (x ∷ xs) y i e = go (x.serial == y.serial) refl (there xs y) i e
          where
            same : (a b : ℕ) → a ≡ b → (a == b) ≡ true
            same a b q = grind (arith, nat_tests, q)

            no : {b : Bool} → b ≡ true → b ≡ false → ⊥
            no p q = cc

            go : (b : Bool) → (x.serial == y.serial) ≡ b →
                (IsIn xs y → stored y.serial xs ≡ None → ⊥) → IsIn (x ∷ xs) y →
                cond b (Some x) (stored y.serial xs) ≡ None → ⊥
            go true q rest j k = cc
            go false q rest (inl r) k =
                no (same x.serial y.serial (ap (λ (z : Stored). z.serial) r)) q
            go false q rest (inr j) k = rest j k

        stored_so : (s : Station) → node S s.port ≡ Some s.node → s.node.port ≡ s.port →
            (y : Stored) → IsIn s.node.heap y → (found : Option Stored) →
            stored y.serial s.node.heap ≡ found →
            net_class N (own s.node y.serial) ≡ class_of S (own s.node y.serial)
        stored_so s here home y i None e = absurd (there s.node.heap y i e)
        stored_so s here home y i (Some z) e =
            let k : ObjectName = own s.node y.serial in
            let class : own_class s.node y.serial ≡ Some z.class =
            ap (option_map (λ (x : Stored). x.class)) e in
            by_node k (part_at N k.node)
            ∙ ap (option_and_then (λ (n : Node). own_class n k.serial))
            (agrees.tallies.shows.nodes k.node ∙ ap (node S) home ∙ here)
            ∙ class
            ∙ sym (seen_right table S all.classes.stations s.port s.node here home k z.class
            (ap (λ b. if b then own_class s.node k.serial
            else (context table S s.node).around.class_of k) (self s.node.port) ∙ class))
          where
            self : (a : ℕ) → (a == a) ≡ true
            self a = grind (arith, nat_tests)

    -- the classes of what is lost
    classes_so : (names : List ObjectName) (ls : List Leak) →
        AllByRecursion (AreLost (snapshot S) names) ls → AllByRecursion (HasClassesOf N S) ls
    classes_so names [] a = tt
    classes_so names (l ∷ ls) a = (
      (class_so l.oid a.0.0.stored, class_so l.holder a.0.1.stored),
      classes_so names ls a.1,
    )

    -- so of all that is told
    pub classes_same : (names : List ObjectName) →
        AllByRecursion (HasClassesOf N S) (leaks (snapshot S) names)
    classes_same names =
        classes_so names (leaks (snapshot S) names)
        (recursion_from_All (AreLost (snapshot S) names) (leaks (snapshot S) names)
        (each_lost (snapshot S) names))
