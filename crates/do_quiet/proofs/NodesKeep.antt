-- In every state that a machine comes to, each node stands at its port, and what it stores holds
-- itself up.
use Rattle.std.proofs.Common.{◌≡◌, ◌==◌, ℕ, Bool, true, false, List, [], ◌∷◌, refl, sym, ap, ◌∙◌}
use Rattle.std.proofs.Common.{cond, inl, inr, map, not, subst, ◌||◌}
use Rattle.std.{specs.{Prelude.{Some, unwrap_or}, List.list_any}, proofs.lemmas.Bool.eqb-true}
use Rattle.do_base.specs.{declared.events.event.Event.Event, names.Names.ObjectName}
use Rattle.do_class.specs.Class.{Class}
use Rattle.do_machine.specs.declared.{node.{Node.Node, Stored.Stored}, state.Effect.Effect}
use Rattle.do_machine.specs.declared.state.{Seat.Seat, State.State, Stepped.Stepped}
use Rattle.do_machine.specs.{Commit.{commit, moved}, Context.around, Entry.has_entry, Lists.IsIn}
use Rattle.do_machine.specs.{State.{change, is_open, node, own, with_queue}, Step.step}
use Rattle.do_machine.specs.World.{by_port, opening, opening_node, others}
use Rattle.do_machine.specs.held.{Kept.{HoldsItself, stays}, Leaving.leaving}
use Rattle.do_facts.specs.laws.{Entries.{HasQueues, IsNoStepOf}, Follows.AllHoldOpen}
use Rattle.do_machine.{specs.run.Run.Acting, proofs.Bools.fails}
use Rattle.do_facts.proofs.machine.{Opening.opening_holds, follows.Every.{all_hold, grow_steps}}
use Rattle.do_facts.proofs.machine.follows.States.{changed, requeued}
use Rattle.do_facts.proofs.machine.passing.Linked.{opening_queues, queues_stay}
use Rattle.do_facts.{proofs.machine.passing.EntriesStay.entries_stay, specs.Reached.reached}
use Rattle.do_facts.specs.steps.IsStep.{Acts, Checks, IsStep, Loses, Skips, Takes}
use Rattle.do_facts.proofs.{OpeningAsNet.opened, ReachedStates.holds_of_reached}
use Rattle.do_facts.proofs.steps.{EachIsStep.step_is, HeldReferred.reached_refers}
use Rattle.do_facts.proofs.steps.NodesAtHome.{was_there}
use Rattle.do_facts.proofs.steps.OthersStay.{move_leaves_own, node_stays, no_act}
use Rattle.do_quiet.{specs.Keeping.NodesKeep, proofs.HeldUpStill.left_holds_up}
use mathlib.Core.Path.{fun_ext}

-- each node stands at its own port, has no end towards itself, and what it stores holds itself up
pub record StandsSo (S : State) (port : ℕ) (n : Node) : Type 0 where
  pub own : n.port ≡ port
  pub apart : is_open n port ≡ false
  pub heap : HoldsItself (around S n).entry n n.heap

-- all nodes do so, hold over open ends, and have their queues
pub record AllStand (S : State) : Type 0 where
  pub holding : AllHoldOpen S
  pub queues : HasQueues S
  pub each : (port : ℕ) (n : Node) → node S port ≡ Some n → StandsSo S port n

-- ---- one step

module _ (table : List Class) (act : Acting) (S : State) (event : Event) (s : Stepped)
    (is : IsStep table act S event s) (all : AllStand S)
    (entries : (peer : ℕ) (o : ObjectName) → IsNoStepOf o.node event →
    has_entry s.state peer o ≡ has_entry S peer o)
    (grown : (port : ℕ) (m : Node) → node s.state port ≡ Some m →
    (m.port ≡ port) × (is_open m port ≡ false)) where
  -- what a node stores holds itself up in a state
  abbrev HeldUp : State → Node → Type 0
  HeldUp T m = HoldsItself (around T m).entry m m.heap

  -- a node that the event is no step of
  other_held_up : (port : ℕ) (m : Node) → node s.state port ≡ Some m → IsNoStepOf port event →
      HeldUp s.state m
  other_held_up port m here apart =
      let was = all.each port m (sym (node_stays S event s is port apart) ∙ here) in
      subst (λ f. HoldsItself f m m.heap)
      (fun_ext (λ peer. fun_ext (λ serial. sym (entries peer (own m serial)
      (subst (λ p. IsNoStepOf p event) (sym was.own) apart)))))
      was.heap

  -- the node that moved, in a state of which its event left the rest
  own_held_up : (port : ℕ) (n : Node) (e : Effect) (U : State) → node U port ≡ Some n →
      s ≡ moved port U e → (m : Node) → node s.state port ≡ Some m → HeldUp s.state m
  own_held_up port n e U there q m here =
      let V = commit port e U in
      let d = leaving (around V e.node).entry e.node in
      let same : d.node ≡ m =
      ap (λ x. unwrap_or x m)
      (sym (move_leaves_own port n e U there) ∙ ap (λ x. node x.state port) (sym q) ∙ here) in
      let after = grown port m here in
      subst (λ x. HeldUp x.state m) (sym q)
      (subst (HeldUp (moved port U e).state) same
      (left_holds_up port V e.node (changed port e n U.stations there)
      (ap (λ x. is_open x port) same ∙ after.1) (ap (λ x. x.port) same ∙ after.0)))

  -- either
  either_held_up : (actor : ℕ) (n : Node) (e : Effect) (U : State) → node U actor ≡ Some n →
      s ≡ moved actor U e →
      ((port : ℕ) → (port == actor) ≡ false → IsNoStepOf port event) → (port : ℕ) (m : Node) →
      node s.state port ≡ Some m → HeldUp s.state m
  either_held_up actor n e U there q apart port m here = go (port == actor) refl
    where
      go : (b : Bool) → (port == actor) ≡ b → HeldUp s.state m
      go false h = other_held_up port m here (apart port h)
      go true h =
          own_held_up actor n e U there q m
          (ap (node s.state) (sym (eqb-true port actor h)) ∙ here)

  -- where nothing changed
  same_held_up : s.state ≡ S → (port : ℕ) (m : Node) → node s.state port ≡ Some m →
      HeldUp s.state m
  same_held_up e port m here =
      subst (λ T. HeldUp T m) (sym e) (all.each port m (ap (λ T. node T port) (sym e) ∙ here)).heap

-- any step
step_held_up : (table : List Class) (act : Acting) (S : State) (event : Event) (s : Stepped)
    (is : IsStep table act S event s) → AllStand S →
    ((peer : ℕ) (o : ObjectName) → IsNoStepOf o.node event →
    has_entry s.state peer o ≡ has_entry S peer o) →
    ((port : ℕ) (m : Node) → node s.state port ≡ Some m →
    (m.port ≡ port) × (is_open m port ≡ false)) →
    (port : ℕ) (m : Node) → node s.state port ≡ Some m →
    HoldsItself (around s.state m).entry m m.heap
step_held_up table act S event s (Skips e) all entries grown port m here =
    same_held_up table act S event s (Skips e) all entries grown (ap (λ x. x.state) e) port m here
step_held_up table act S event s (Acts actor n d own there rule e) all entries grown port m here =
    either_held_up table act S event s (Acts actor n d own there rule e) all entries grown actor n
    d S there e
    (λ p h. no_act event actor p own h) port m here
step_held_up table act S event s (Takes actor from n item rest d q there rule waits e) all entries
    grown port m here =
    let U = change from (with_queue actor rest) S in
    either_held_up table act S event s (Takes actor from n item rest d q there rule waits e) all
    entries grown actor n d U (requeued from actor actor rest S.stations ∙ there) e
    (λ p h. subst (IsNoStepOf p) (sym q) h) port m here
step_held_up table act S event s (Loses from to k w q waits few e) all entries grown port m here =
    other_held_up table act S event s (Loses from to k w q waits few e) all entries grown port m
    here
    (subst (IsNoStepOf port) (sym q) tt)
step_held_up table act S event s (Checks q e) all entries grown port m here =
    same_held_up table act S event s (Checks q e) all entries grown (ap (λ x. x.state) e) port m
    here

-- ---- every state

module _ (table : List Class) where
  -- among the other ports a port is not
  no_end : (all : List ℕ) (port : ℕ) → list_any (λ p. p == port) (others all port) ≡ false
  no_end [] port = refl
  no_end (p ∷ ps) port = go (p == port) refl (no_end ps port)
    where
      go : (b : Bool) → (p == port) ≡ b →
          list_any (λ q. q == port) (others ps port) ≡ false →
          list_any (λ q. q == port)
          (cond (not b) (p ∷ others ps port) (others ps port)) ≡ false
      go true e h = h
      go false e h = ap (λ b. b || list_any (λ q. q == port) (others ps port)) e ∙ h

  -- the one object of a node that opens is its root
  opening_holds_up : (all : List ℕ) (s : Seat) (entry : ℕ → ℕ → Bool) →
      HoldsItself entry (opening_node table all s) (opening_node table all s).heap
  opening_holds_up all s entry = record { stay = by_root }
    where
      by_root : (x : Stored) → IsIn (opening_node table all s).heap x →
          stays entry (opening_node table all s) (opening_node table all s).heap x ≡ true
      by_root x (inl e) =
          subst (λ y. stays entry (opening_node table all s) (opening_node table all s).heap y
          ≡ true) e refl
      by_root x (inr i) = absurd i

module _ (table : List Class) (act : Acting) where
  -- it has its port, and no end towards itself
  grown_so : (S : State) (event : Event) → AllStand S → (port : ℕ) (m : Node) →
      node (step table act S event).state port ≡ Some m →
      (m.port ≡ port) × (is_open m port ≡ false)
  grown_so S event all port m here =
      let r = was_there table act S event port m here (node S port) refl in
      let was = all.each port r.0 r.1 in (
        r.2.port ∙ was.own,
        fails (is_open m port) (λ o. no r.0 (r.2.ends port o) was.apart),
      )
    where
      no : (n : Node) → is_open n port ≡ true → is_open n port ≡ false → ⊥
      no n x y = cc

  -- a step
  step_stands : (S : State) (event : Event) → AllStand S →
      AllStand (step table act S event).state
  step_stands S event all =
      let T = (step table act S event).state in
      record {
        holding = all_hold S T (grow_steps table act S event) all.holding;
        queues = queues_stay table act S event all.queues;
        each = λ port m here.
            let so = grown_so S event all port m here in
            record {
              own = so.0;
              apart = so.1;
              heap = step_held_up table act S event (step table act S event)
                  (step_is S table act event) all
                  (λ peer o h. entries_stay table act S event peer o all.holding all.queues h)
                  (grown_so S event all) port m here;
            };
      }

  -- a machine opens so
  opening_stands : (seats : List Seat) → AllStand (opening table seats)
  opening_stands seats = record {
    holding = opening_holds table seats;
    queues = opening_queues table seats;
    each = λ port n here.
        let sorted = by_port seats in
        let all = map (λ s. s.node) sorted in
        let S = opening table seats in
        let so = opened table all
        (λ p m. (m.port ≡ p) × (is_open m p ≡ false)
        × ((entry : ℕ → ℕ → Bool) → HoldsItself entry m m.heap))
        (λ s. (refl, no_end table all s.node, opening_holds_up table all s)) sorted port n here
        in record { own = so.0; apart = so.1; heap = so.2 (around S n).entry };
  }

  -- every state that a machine comes to
  pub reached_nodes_keep : (seats : List Seat) (events : List Event) →
      NodesKeep (reached table act seats events)
  reached_nodes_keep seats events =
      let all = holds_of_reached table act AllStand step_stands seats events
      (opening_stands seats)
      in record {
        port = λ p n here. (all.each p n here).own;
        heap = λ p n here. (all.each p n here).heap;
        held = (reached_refers table act seats events).each;
      }
