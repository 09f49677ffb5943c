-- Classes are kept by every step, and in every state that a machine comes to.
use Rattle.do_machine.specs.declared.item.Item.TheVariants as items
use Rattle.do_facts.specs.Net as nets
use Rattle.std.proofs.Common.{◌≡◌, ◌==◌, ◌+◌, ◌<◌, ◌≢◌, ℕ, Bool, true, false, List, [], ◌∷◌, refl}
use Rattle.std.{proofs.Common.{sym, ap, ◌∙◌, subst, arith}, specs.Prelude.{None, Option, Some}}
use Rattle.std.specs.{Prelude.{is_some, option_map}, List.{AllByRecursion, insert}}
use Rattle.std.proofs.lemmas.Bool.{eqb-true, Decides.nat_tests}
use Rattle.do_base.specs.declared.events.event.Event.{Event}
use Rattle.do_base.specs.declared.events.event.Event.TheVariants.{Close, Run, Start, Timeout}
use Rattle.do_base.specs.names.Names.{ObjectName, TokenName}
use Rattle.do_class.specs.{Class.Class, declared.ids.ClassId.ClassId}
use Rattle.do_machine.specs.{lend.Asking.wanted, declared.{item.Item.Item, node.Node.Node}}
use Rattle.do_machine.specs.declared.state.{Effect.Effect, State.State, Station.Station}
use Rattle.do_machine.specs.{declared.state.Stepped.Stepped, Commit.{commit, moved}}
use Rattle.do_machine.specs.{Context.{Context, around, class_seen, context}, Start.start_effect}
use Rattle.do_machine.specs.{Objects.object_at, State.{change, class_of, is_known, is_open, node}}
use Rattle.do_machine.specs.{State.{queue, station, with_queue}, Step.step, ends.TimeOut.time_out}
use Rattle.do_machine.specs.{held.Leaving.leaving, run.Run.{Acting, run_effect}}
use Rattle.do_machine.specs.take.Take.{take_effect}
use Rattle.do_facts.proofs.machine.follows.States.{changed, requeued}
use Rattle.do_facts.proofs.machine.passing.Lookups.{elsewhere_stays, other_stays, that_changed}
use Rattle.do_network.specs.Counting.{Classed, item_classes}
use Rattle.do_facts.specs.{Net.{Note, noted}, View.{AreMoves, net_of, part_seen, wire_seen}}
use Rattle.do_facts.specs.links.{Facts.{answer_of, same3}, Links.{Atom, atoms, links, links_of}}
use Rattle.do_facts.specs.links.{LinksAreKept.LinksAreKept, Moves.{has_wanted, link_rules, opens}}
use Rattle.do_facts.specs.{links.Sound.IsSound, steps.IsStep.{Acts, Checks, IsRuleOf, IsStep}}
use Rattle.do_facts.specs.steps.IsStep.{Loses, Skips, Takes, without_oldest}
use Rattle.do_facts.proofs.links.{Bridge.link_bridge, ReportsKnown.reports_known}
use Rattle.do_facts.proofs.steps.{EachIsStep.step_is, NodesAtHome.AllAtHome}
use Rattle.do_agreement.specs.AreTold.{AreTold}
use Rattle.do_agreement.proofs.acts.StepTallies.{rule_moves, sound_after, sound_here}
use Rattle.do_agreement.proofs.classes.KnownAfter.{GrantedIs, TakenAre, item_such}
use Rattle.do_agreement.proofs.places.KeyedLists.{found_changed, found_elsewhere}
use Rattle.do_agreement.proofs.{places.PlacesChanged.some_is, sites.RuleEffects.rule_effect}
use Rattle.do_agreement.proofs.{takes.TakeEvents.asked_known, told.ClassesKept.ClassesKept}
use Rattle.do_agreement.proofs.told.ClassesKept.{HasClass, IsToldIn, commit_keeps, seen_right}
use Rattle.do_agreement.proofs.told.HeapsGrow.{Grown, closing_grown, leaving_grown, run_grown}
use Rattle.do_agreement.proofs.told.HeapsGrow.{start_grown, take_grown, time_out_grown}
use Rattle.do_agreement.proofs.told.{RulesTold.rule_told, StationsFit.{IsGiven, StationFits}}
use Rattle.do_agreement.proofs.told.{StationsFit.StationsFit, TakesTold.{leaving_told, take_told}}
use Rattle.do_facts.proofs.EachOfLists.{each_inserted, each_weaker}
use Rattle.do_facts.proofs.{steps.OthersStay.class_requeued, machine.follows.SteadyTakes.by_take}
use Rattle.do_facts.proofs.walk.Possible.{there}

-- ---- other items in a queue

module _ (S : State) (keeps : ClassesKept S) (from to : ℕ) (xs w : List Item)
    (waits : queue S from to ≡ Some w) (told : AllByRecursion (IsToldIn S from) xs) where
  -- the state with these items there
  abbrev T : State
  T = change from (with_queue to xs) S

  -- no class changes
  pub same_class : (o : ObjectName) → class_of T o ≡ class_of S o
  same_class o = class_requeued from to xs o S.stations

  -- a station fits
  station_fits : StationsFit T
  station_fits x s h = go (from == x) refl
    where
      of : (found : Option Station) → station S from ≡ found →
          option_map (with_queue to xs) found ≡ Some s → StationFits s
      of None k q = absurd (cc)
      of (Some r) k q =
          let fit = keeps.stations from r k in
          subst StationFits (some_is (with_queue to xs r) s q)
          (record { given = fit.given; stored = fit.stored })

      go : (b : Bool) → (from == x) ≡ b → StationFits s
      go true k =
          of (station S from) refl
          (sym (found_changed (λ (r : Station). r.port) (with_queue to xs) (λ r. refl) from
          S.stations)
          ∙ ap (station T) (eqb-true from x k) ∙ h)
      go false k =
          keeps.stations x s
          (sym (found_elsewhere (λ (r : Station). r.port) (with_queue to xs) (λ r. refl) from x k
          S.stations) ∙ h)

  -- what was told is told
  told_there : (ys : List Classed) → AllByRecursion (λ y. class_of S y.object ≡ Some y.class) ys →
      AllByRecursion (λ y. class_of T y.object ≡ Some y.class) ys
  told_there =
      each_weaker (λ y. class_of S y.object ≡ Some y.class)
      (λ y. class_of T y.object ≡ Some y.class) (λ y h. same_class y.object ∙ h)

  -- by all items
  items_there : (a : ℕ) (zs : List Item) → AllByRecursion (IsToldIn S a) zs →
      AllByRecursion (IsToldIn T a) zs
  items_there a =
      each_weaker (IsToldIn S a) (IsToldIn T a) (λ z. told_there (item_classes a z))

  -- in each queue
  queue_there : (a m : ℕ) (zs : List Item) → queue T a m ≡ Some zs →
      AllByRecursion (IsToldIn T a) zs
  queue_there a m zs h = go (a == from) refl (m == to) refl
    where
      go : (b : Bool) → (a == from) ≡ b → (d : Bool) → (m == to) ≡ d →
          AllByRecursion (IsToldIn T a) zs
      go false e d k =
          items_there a zs
          (keeps.told.told a m zs (sym (elsewhere_stays from to xs S.stations a m e) ∙ h))
      go true e false k =
          items_there a zs (keeps.told.told a m zs (sym (other_stays from to xs S.stations a m k)
          ∙ h))
      go true e true k =
          let is_a : a ≡ from = eqb-true a from e in
          let is_m : m ≡ to = eqb-true m to k in
          subst (λ c. AllByRecursion (IsToldIn T c) zs) (sym is_a)
          (subst (AllByRecursion (IsToldIn T from))
          (some_is xs zs (sym (that_changed from to xs w S.stations waits)
          ∙ ap (queue T from) (sym is_m) ∙ ap (λ c. queue T c m) (sym is_a) ∙ h))
          (items_there from xs told))

  -- classes are kept
  pub requeue_keeps : ClassesKept T
  requeue_keeps = record {
    stations = station_fits;
    told = record {
      known = λ x n h o k.
          ap is_some (same_class o)
          ∙ keeps.told.known x n (sym (requeued from to x xs S.stations) ∙ h) o k;
      told = queue_there;
    };
  }

-- ---- a move

-- what a station's node stores
node_of : (T : State) (port : ℕ) (n : Node) (s : Station) → node T port ≡ Some n →
    station T port ≡ Some s → n ≡ s.node
node_of T port n s h k =
    some_is n s.node (sym h ∙ ap (option_map (λ (r : Station). r.node)) k)

-- a node moves, and leaves what it does without
move_keeps : (table : List Class) (T : State) → ClassesKept T → (port : ℕ) (n : Node) →
    node T port ≡ Some n → (c : Context) → c.node ≡ n → n.port ≡ port →
    ((o : ObjectName) (class : ClassId) → class_seen c o ≡ Some class → class_of T o ≡ Some class) →
    (e : Effect) (taken : List (Note Atom)) → AreMoves links link_rules n taken e →
    TakenAre (HasClass T) taken → AreTold c e.sent →
    ((Q : ℕ → ClassId → Type 0) → Grown Q n e.node) → e.node.port ≡ port →
    IsSound (links_of e.node) → ClassesKept (moved port T e).state
move_keeps table T keeps port n here c same home right e taken moves takes told grown at sound =
    let U = commit port e T in
    let mid = commit_keeps T keeps port n here c same home right e taken moves takes told
    (λ s k. subst (λ m. Grown (IsGiven s.classes) m e.node) (node_of T port n s here k)
    (grown (IsGiven s.classes))) in
    let now = changed port e n T.stations here in
    let entry = (around U e.node).entry in
    commit_keeps U mid port e.node now (context table U e.node) refl at
    (seen_right table U mid.stations port e.node now at) (leaving entry e.node) []
    (link_bridge.leave entry e.node sound) tt
    (leaving_told (context table U e.node) entry e.node)
    (λ s k. subst (λ m. Grown (IsGiven s.classes) m (leaving entry e.node).node)
    (node_of U port e.node s now k) (leaving_grown (IsGiven s.classes) entry e.node))

-- the effect of an event's rule has grown
rule_grown : (table : List Class) (act : Acting) (S : State) (event : Event) (n : Node)
    (e : Effect) → IsRuleOf table act S event n e →
    (Q : ℕ → ClassId → Type 0) → Grown Q n e.node
rule_grown table act S (Start port selector values) n e rule Q =
    there (λ d. Grown Q n d.node) (start_effect table selector values n) e
    (start_grown Q table selector values n) rule
rule_grown table act S (Run port) n e rule Q =
    there (λ d. Grown Q n d.node) (run_effect act (context table S n)) e
    (run_grown Q act (context table S n)) rule
rule_grown table act S (Close port peer) n e rule Q =
    subst (λ d. Grown Q n d.node) (sym rule.1) (closing_grown Q peer n)
rule_grown table act S (Timeout port) n e rule Q =
    there (λ d. Grown Q n d.node) (time_out n) e (time_out_grown Q n) rule
rule_grown table act S _ n e rule Q = absurd rule

-- ---- steps

-- what is told has a class
have_class : (S : State) (ys : List Classed) →
    AllByRecursion (λ y. class_of S y.object ≡ Some y.class) ys →
    AllByRecursion (λ y. HasClass S y.object) ys
have_class S =
    each_weaker (λ y. class_of S y.object ≡ Some y.class) (λ y. HasClass S y.object)
    (λ y h. ap is_some h)

module _ (table : List Class) (act : Acting) (S : State) (keeps : ClassesKept S)
    (kept : LinksAreKept S) (home : AllAtHome S) where
  -- an object that is granted is known
  granted_known : (port from : ℕ) (n : Node) (s : ℕ) (t : TokenName) (rest : List Item) →
      node S port ≡ Some n → is_open n from ≡ true →
      queue S from port ≡ Some (items.Granted s t ∷ rest) →
      is_known n (object_at from s) ≡ true
  granted_known port from n s t rest here ends waits =
      let net = net_of links S in
      let is_open_in : opens (net.part port) from ≡ true =
      ap (λ f. opens (part_seen links f) from) here ∙ ends in
      let some : 0 < nets.total (answer_of s t.lender t.number) (net.wire from port) =
      subst (λ f. 0 < nets.total (answer_of s t.lender t.number) (wire_seen links f)) (sym waits)
      (above (same3 s t.lender t.number s t.lender t.number) _ (one s t.lender t.number)) in
      asked_known from s t.lender t.number n
      (sym (ap (λ f. has_wanted (part_seen links f)
      (wanted (object_at from s) t.lender t.number)) here)
      ∙ ((reports_known net kept.hold).answered port from s t.lender t.number apart is_open_in
      some).1)
    where
      one : (a b c : ℕ) → same3 a b c a b c ≡ 1
      one a b c = grind (arith, nat_tests)

      above : (k r : ℕ) → k ≡ 1 → 0 < k + r
      above k r e = omega (arith, e)

      no : is_open n port ≡ true → is_open n port ≡ false → ⊥
      no a b = cc

      apart : port ≢ from
      apart = λ same.
          no (ap (is_open n) same ∙ ends)
          (sym (ap (λ f. opens (part_seen links f) port) here) ∙ kept.hold.apart port)

  -- each form of a step
  form_keeps : (event : Event) (s : Stepped) → IsStep table act S event s → ClassesKept s.state
  form_keeps event s (Skips q) = subst (λ x. ClassesKept x.state) (sym q) keeps
  form_keeps event s (Acts port n e own here rule q) =
      let sound = sound_here S kept port n here in
      let at = home.each port n here in
      let moves = rule_moves table act S event n e sound rule in
      subst (λ x. ClassesKept x.state) (sym q)
      (move_keeps table S keeps port n here (context table S n) refl at
      (seen_right table S keeps.stations port n here at) e [] moves tt
      (rule_told table act S event n e rule) (rule_grown table act S event n e rule)
      ((rule_effect table act S event n e sound (record { reached = sound.reached }) rule).same
      ∙ at)
      (sound_after S kept port n here [] e moves))
  form_keeps event s (Takes port from n item rest e is here rule waits q) =
      let sound = sound_here S kept port n here in
      let at = home.each port n here in
      let all = keeps.told.told from port (item ∷ rest) waits in
      let T = without_oldest S from port rest in
      let less = requeue_keeps S keeps from port rest (item ∷ rest) waits all.1 in
      let there = requeued from port port rest S.stations ∙ here in
      let c = context table T n in
      let d = take_effect c from item in
      let moves = link_bridge.take c from item rule.0 sound in
      let same = same_class S keeps from port rest (item ∷ rest) waits all.1 in
      subst (λ x. ClassesKept x.state) (sym q)
      (subst (λ x. ClassesKept (moved port T x).state) (sym rule.1)
      (move_keeps table T less port n there c refl at
      (seen_right table T less.stations port n there at) d (noted from (atoms item)) moves
      (item_such (HasClass T) from item
      (have_class T (item_classes from item)
      (each_weaker (λ y. class_of S y.object ≡ Some y.class)
      (λ y. class_of T y.object ≡ Some y.class) (λ y h. same y.object ∙ h)
      (item_classes from item) all.0))
      (granted port from n item rest here rule.0 waits T same))
      (take_told c from item) (λ Q. take_grown Q c from item)
      ((by_take c from item rule.0).grows.port ∙ at)
      (sound_after S kept port n here (noted from (atoms item)) d moves)))
    where
      granted : (port from : ℕ) (n : Node) (item : Item) (rest : List Item) →
          node S port ≡ Some n → is_open n from ≡ true → queue S from port ≡ Some (item ∷ rest) →
          (T : State) → ((o : ObjectName) → class_of T o ≡ class_of S o) →
          GrantedIs (HasClass T) from item
      granted port from n (items.Granted r t) rest here ends waits T same =
          ap is_some (same (object_at from r))
          ∙ keeps.told.known port n here (object_at from r)
          (granted_known port from n r t rest here ends waits)
      granted port from n _ rest here ends waits T same = tt
  form_keeps event s (Loses from to k w is waits few q) =
      subst (λ x. ClassesKept x.state) (sym q)
      (requeue_keeps S keeps from to (insert w k (items.End [])) w waits
      (each_inserted (IsToldIn S from) w k (items.End []) tt (keeps.told.told from to w waits)))
  form_keeps event s (Checks is q) = subst (λ x. ClassesKept x.state) (sym q) keeps

  -- every step
  pub step_keeps : (event : Event) → ClassesKept (step table act S event).state
  step_keeps event = form_keeps event (step table act S event) (step_is S table act event)
