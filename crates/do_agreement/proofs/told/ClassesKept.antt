-- In every state that a machine comes to, classes are told of what is known and on its way.
use Rattle.std.proofs.Common.{◌≡◌, ◌==◌, ◌++◌, ℕ, Bool, true, false, cond, List, [], ◌∷◌, filter}
use Rattle.std.proofs.Common.{map, refl, sym, ap, ◌∙◌, subst}
use Rattle.std.specs.Prelude.{None, Option, Some, if◌then◌else◌, is_some, option_and_then}
use Rattle.std.{specs.{Prelude.option_map, List.AllByRecursion}, proofs.lemmas.Bool.eqb-true}
use Rattle.do_base.specs.names.Names.{ObjectName}
use Rattle.do_class.specs.{Class.Class, declared.ids.ClassId.ClassId}
use Rattle.do_machine.specs.declared.{item.Item.Item, node.Node.Node, state.Effect.Effect}
use Rattle.do_machine.specs.declared.state.{Parcel.Parcel, State.State, Station.Station}
use Rattle.do_machine.specs.Commit.{commit, items_to}
use Rattle.do_machine.specs.{Context.{Context, class_seen, context, own_class}, State.class_given}
use Rattle.do_machine.specs.State.{class_of, is_known, is_own, node, queue, queue_to, station}
use Rattle.do_facts.proofs.machine.{ClassesStay.stays, Frame.elsewhere, Queues.grows_behind}
use Rattle.do_facts.proofs.machine.{follows.States.changed, passing.NoQueue.stays_none}
use Rattle.do_network.specs.Counting.{Classed, item_classes}
use Rattle.do_facts.specs.{Net.Note, View.AreMoves, links.{Links.{Atom, links}, Moves.link_rules}}
use Rattle.do_facts.proofs.steps.OthersStay.{commit_leaves_others}
use Rattle.do_agreement.specs.{AreTold.{AreTold, TellsSeen}, Classed.ClassesAreTold}
use Rattle.do_agreement.proofs.classes.KnownAfter.{TakenAre, known_after}
use Rattle.do_agreement.proofs.{places.PlacesChanged.some_is, told.HeapsGrow.Grown}
use Rattle.do_agreement.proofs.told.StationsFit.{IsGiven, StationsFit, found_given, stations_after}
use Rattle.do_facts.proofs.EachOfLists.{each_joined, each_weaker}

-- The stations of a state fit, and it tells classes
pub record ClassesKept (S : State) : Type 0 where
  pub stations : StationsFit S
  pub told : ClassesAreTold S

-- an object has a class
abbrev pub HasClass : State → ObjectName → Type 0
HasClass S o = is_some (class_of S o) ≡ true

-- what an item tells is the class
abbrev pub IsToldIn : State → ℕ → Item → Type 0
IsToldIn S from item =
    AllByRecursion (λ y. class_of S y.object ≡ Some y.class) (item_classes from item)

-- the class that a node sees is the object's
pub seen_right : (table : List Class) (S : State) → StationsFit S → (port : ℕ) (n : Node) →
    node S port ≡ Some n → n.port ≡ port → (o : ObjectName) (class : ClassId) →
    class_seen (context table S n) o ≡ Some class → class_of S o ≡ Some class
seen_right table S fit port n here home o class h = go (is_own n o) refl h
  where
    at_home : (found : Option Station) → station S port ≡ found →
        option_map (λ (s : Station). s.node) found ≡ Some n → own_class n o.serial ≡ Some class →
        option_and_then (λ (s : Station). class_given s.classes o.serial) found ≡ Some class
    at_home None k e q = absurd (cc)
    at_home (Some s) k e q =
        found_given s.classes o.serial class s.node.heap (fit port s k).stored
        (ap (λ (m : Node). own_class m o.serial) (some_is s.node n e) ∙ q)

    foreign : (b : Bool) → (if b then class_of S o else None) ≡ Some class →
        class_of S o ≡ Some class
    foreign true q = q
    foreign false q = absurd (cc)

    go : (b : Bool) → (o.node == n.port) ≡ b →
        (if b then own_class n o.serial else (if is_known n o then class_of S o else None))
        ≡ Some class → class_of S o ≡ Some class
    go true e q =
        let is : o.node ≡ port = eqb-true o.node n.port e ∙ home in
        ap (λ k. option_and_then (λ (s : Station). class_given s.classes o.serial) (station S k)) is
        ∙ at_home (station S port) refl here q
    go false e q = foreign (is_known n o) q

module _ (T : State) (keeps : ClassesKept T) (port : ℕ) (n : Node) (here : node T port ≡ Some n)
    (c : Context) (same : c.node ≡ n) (home : n.port ≡ port)
    (right : (o : ObjectName) (class : ClassId) → class_seen c o ≡ Some class →
    class_of T o ≡ Some class) (e : Effect) (taken : List (Note Atom))
    (moves : AreMoves links link_rules n taken e) (takes : TakenAre (HasClass T) taken)
    (told : AreTold c e.sent)
    (grown : (s : Station) → station T port ≡ Some s → Grown (IsGiven s.classes) s.node e.node)
  where
    -- the state after the effect
    abbrev U : State
    U = commit port e T

    -- a class stays
    still : (o : ObjectName) (class : ClassId) → class_of T o ≡ Some class →
        class_of U o ≡ Some class
    still o class h = stays port e o class T.stations h

    -- so does that there is one
    some_still : (o : ObjectName) → HasClass T o → HasClass U o
    some_still o h = go (class_of T o) refl h
      where
        go : (found : Option ClassId) → class_of T o ≡ found → is_some found ≡ true → HasClass U o
        go None k q = absurd (cc)
        go (Some class) k q = ap is_some (still o class k)

    -- what was told is told
    told_still : (ys : List Classed) → AllByRecursion (λ y. class_of T y.object ≡ Some y.class) ys →
        AllByRecursion (λ y. class_of U y.object ≡ Some y.class) ys
    told_still =
        each_weaker (λ y. class_of T y.object ≡ Some y.class)
        (λ y. class_of U y.object ≡ Some y.class) (λ y. still y.object y.class)

    -- so are all
    items_still : (from : ℕ) (xs : List Item) → AllByRecursion (IsToldIn T from) xs →
        AllByRecursion (IsToldIn U from) xs
    items_still from =
        each_weaker (IsToldIn T from) (IsToldIn U from)
        (λ x. told_still (item_classes from x))

    -- what the node tells is the class
    seen_told : (ys : List Classed) → AllByRecursion (TellsSeen c) ys →
        AllByRecursion (λ y. class_of U y.object ≡ Some y.class) ys
    seen_told =
        each_weaker (TellsSeen c) (λ y. class_of U y.object ≡ Some y.class)
        (λ y h. still y.object y.class (right y.object y.class h))

    -- so it is of all that it sends to a peer
    sent_told : (m : ℕ) (ps : List Parcel) → AreTold c ps →
        AllByRecursion (IsToldIn U port) (items_to m ps)
    sent_told m [] all = tt
    sent_told m (x ∷ ps) all = go (x.to == m) (sent_told m ps all.1)
      where
        is : c.node.port ≡ port
        is = ap (λ (k : Node). k.port) same ∙ home

        go : (b : Bool) → AllByRecursion (IsToldIn U port) (items_to m ps) →
            AllByRecursion (IsToldIn U port) (map (λ (y : Parcel). y.item)
            (cond b (x ∷ filter (λ y. y.to == m) ps) (filter (λ y. y.to == m) ps)))
        go true rest = (
          seen_told (item_classes port x.item)
              (subst (λ k. AllByRecursion (TellsSeen c) (item_classes k x.item)) is all.0),
          rest,
        )
        go false rest = rest

    -- a queue of the node
    own_told : (m : ℕ) (found : Option (List Item)) → queue T port m ≡ found → (xs : List Item) →
        queue U port m ≡ Some xs → AllByRecursion (IsToldIn U port) xs
    own_told m None k xs h = absurd (none (stays_none port m e T.stations k) h)
      where
        none : {o : Option (List Item)} → o ≡ None → o ≡ Some xs → ⊥
        none a b = cc
    own_told m (Some w) k xs h =
        subst (AllByRecursion (IsToldIn U port))
        (some_is (w ++ items_to m e.sent) xs (sym (grows_behind port m e T.stations w k) ∙ h))
        (each_joined (IsToldIn U port) w (items_to m e.sent)
        (items_still port w (keeps.told.told port m w k)) (sent_told m e.sent told))

    -- a queue
    queue_told : (a m : ℕ) (xs : List Item) → queue U a m ≡ Some xs →
        AllByRecursion (IsToldIn U a) xs
    queue_told a m xs h = go (a == port) refl
      where
        go : (b : Bool) → (a == port) ≡ b → AllByRecursion (IsToldIn U a) xs
        go true k =
            let is : a ≡ port = eqb-true a port k in
            subst (λ z. AllByRecursion (IsToldIn U z) xs) (sym is)
            (own_told m (queue T port m) refl xs (ap (λ z. queue U z m) (sym is) ∙ h))
        go false k =
            items_still a xs (keeps.told.told a m xs
            (sym (ap (λ s. option_and_then (queue_to m) s) (elsewhere port a e T.stations k)) ∙ h))

    -- what a node knows
    known_told : (a : ℕ) (k : Node) → node U a ≡ Some k → (o : ObjectName) → is_known k o ≡ true →
        HasClass U o
    known_told a k h o q = go (a == port) refl
      where
        go : (b : Bool) → (a == port) ≡ b → HasClass U o
        go true x =
            let is : a ≡ port = eqb-true a port x in
            let now : e.node ≡ k =
            some_is e.node k (sym (changed port e n T.stations here) ∙ ap (node U) (sym is) ∙ h) in
            some_still o (known_after (HasClass T) n taken e moves
            (keeps.told.known port n here) takes o (ap (λ z. is_known z o) now ∙ q))
        go false x =
            some_still o (keeps.told.known a k (sym (commit_leaves_others port a e T x) ∙ h) o q)

    -- classes are kept by the effect
    pub commit_keeps : ClassesKept U
    commit_keeps = record {
      stations = stations_after T port e keeps.stations grown;
      told = record { known = known_told; told = queue_told };
    }
