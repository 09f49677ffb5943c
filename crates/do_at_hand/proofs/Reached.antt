-- In every state with all ends open that a machine comes to, nodes name only what is at hand.
use Rattle.do_base.specs.declared.events.event.Event.TheVariants as events
use Rattle.do_machine.specs.declared.item.Item.TheVariants as items
use Rattle.std.proofs.Common.{Bool, List, [], ap, arith, false, filter, map, not, refl, subst, sym}
use Rattle.std.proofs.{Common.{true, ℕ, ◌&&◌, ◌==◌, ◌||◌, ◌∙◌, ◌∷◌, ◌≡◌}, lemmas.Bool.eqb-true}
use Rattle.std.proofs.lemmas.Bool.Decides.{nat_tests}
use Rattle.std.specs.{List.{AllByRecursion, list_any}, Prelude.{Option, Some, is_some, unwrap_or}}
use Rattle.do_base.specs.declared.events.event.Event.{Event}
use Rattle.do_class.specs.Class.{Class}
use Rattle.do_packet.specs.Met.{has_object}
use Rattle.do_machine.proofs.Bools.{fails, or_right}
use Rattle.do_machine.specs.{Commit.skipped, Context.{Context, context}, Entry.has_entry}
use Rattle.do_machine.specs.Entry.{is_holder, is_on_its_way_back, is_reached, is_under_way}
use Rattle.do_machine.specs.{Items.{exported, released}, Lists.some_passes, Objects.object_at}
use Rattle.do_machine.specs.{State.{is_open, node, own, queue, stored}, Step.step}
use Rattle.do_machine.specs.{World.{by_port, opening, opening_node}, check.Blocks.{followed, steps}}
use Rattle.do_machine.specs.declared.{item.Item.Item, node.Node.Node, state.Effect.Effect}
use Rattle.do_machine.specs.declared.state.{Seat.Seat, State.State, Stepped.Stepped}
use Rattle.do_machine.specs.{ends.Closing.{asked_of, closing, parted}, held.Leaving.leaving}
use Rattle.do_machine.specs.{run.{Fresh.blank, Run.Acting}, take.Take.{holding, take_effect}}
use Rattle.do_facts.proofs.{OpeningAsNet.opened, links.EntriesStored.entered_stored}
use Rattle.do_facts.proofs.machine.follows.{Every.grow_steps, States.requeued}
use Rattle.do_facts.proofs.machine.passing.Lookups.{elsewhere_stays, that_changed}
use Rattle.do_facts.proofs.steps.NodeSteps.{Acted, NodeStep, Stands, Took, node_step}
use Rattle.do_facts.{proofs.walk.SmallEffects.settled_node, specs.{Net.total, Reached.reached}}
use Rattle.do_facts.specs.{View.{part_seen, wire_seen}, links.{Links.links, Moves.opens}}
use Rattle.do_facts.specs.steps.IsStep.{IsActOf, IsRuleOf, without_oldest}
use Rattle.do_quiet.proofs.{Backing.gone_of, LendsKept.{StandsLent, opening_lent, step_lent}}
use Rattle.do_quiet.{proofs.QuietStates.reach, specs.Quiet.{AllEndsOpen, is_gone}}
use Rattle.do_at_hand.proofs.{Leaves.leaves_at_hand, Runs.{Good, GoodIf, run_good}}
use Rattle.do_at_hand.proofs.{Starts.{start_good, time_out_good}, Takes.{IsNoEnd, take_good}}
use Rattle.do_at_hand.proofs.Within.{AtHand, blank_within, own_hand, own_is, stored_one}
use Rattle.do_at_hand.specs.AtHand.{ShowsNames, StartsPlain, is_at_hand}

-- an end that is closed is not open
end_closed : (peer : ℕ) (ps : List ℕ) →
    list_any (λ p. p == peer) (filter (λ p. not (p == peer)) ps) ≡ false
end_closed peer [] = refl
end_closed peer (p ∷ ps) = grind (arith, nat_tests, end_closed peer ps)

-- a node that closed its end
closed_now : (peer : ℕ) (n : Node) → is_open (closing peer n).node peer ≡ false
closed_now peer n =
    ap (λ m. is_open m peer) (settled_node (asked_of peer n) (parted peer n))
    ∙ end_closed peer n.open_to

-- it can't be open
never : (b : Bool) → b ≡ true → b ≡ false → ⊥
never b x y = cc

-- where the atoms of items refuse no ask, the first item does not
none_gone : (item : Item) (behind : List Item) →
    total gone_of (wire_seen links (Some (item ∷ behind))) ≡ 0 → is_gone item ≡ false
none_gone (items.Gone serial token) behind h = absurd (omega (arith, h))
none_gone _ behind h = refl

-- an entry that stands by what follows from other tests
entry_by : (a b c d x y z w : Bool) → a ≡ x → b ≡ y → c ≡ z → (d ≡ true → w ≡ true) →
    (a && ((b || c) || d)) ≡ true → (x && ((y || z) || w)) ≡ true
entry_by true true c d true true z w p q r f h = refl
entry_by true false true d true false true w p q r f h = refl
entry_by true false false true x y z w p q r f h = grind (arith, p, q, r, f)
entry_by a b c d x y z w p q r f h = grind (arith, p, q, r, f, h)

-- what a start, a run or a time-out comes to, where there is an effect
good_there : (found : Option Effect) (e : Effect) → GoodIf found → found ≡ Some e → Good e
good_there found e h is = subst GoodIf is h

module _ (table : List Class) (act : Acting) (seats : List Seat)
    (shows : ShowsNames table act) where
  -- each node names only what is at hand, as long as all ends are open
  pub record StandsHand (S : State) : Type 0 where
    pub lent : StandsLent table seats S
    pub hand : AllEndsOpen S → (port : ℕ) (n : Node) → node S port ≡ Some n → AtHand n

  module _ (S : State) (event : Event) (plain : StartsPlain event) (h : StandsHand S) where
    -- the state after the event
    abbrev T : State
    T = (step table act S event).state

    -- what stands there of lends
    lent_then : StandsLent table seats T
    lent_then = step_lent table seats act S event h.lent

    module _ (open_all : AllEndsOpen T) where
      -- all ends were open before
      open_before : AllEndsOpen S
      open_before = record {
        reach = λ port peer n m here there other.
            let x = (grow_steps table act S event).stands port n here in
            let y = (grow_steps table act S event).stands peer m there in
            x.2.ends peer (open_all.reach port peer x.0 y.0 x.1 y.1 other);
      }

      -- so nodes named only what was at hand
      was : (port : ℕ) (n : Node) → node S port ≡ Some n → AtHand n
      was = h.hand open_before

      -- an end that was open is so
      open_still : (port peer : ℕ) (n m : Node) → node S port ≡ Some n → node T port ≡ Some m →
          is_open n peer ≡ true → is_open m peer ≡ true
      open_still port peer n m here now o =
          let first = (h.lent.stands.within port).reached peer
          (ap (λ found. opens (part_seen links found) peer) here ∙ o) in
          ap (λ found. opens (part_seen links found) peer) (sym now)
          ∙ (reach table seats T lent_then.stands open_all port peer first).0

      module _ (port : ℕ) (m : Node) (now : node T port ≡ Some m) where
        -- a node that left what it does without
        left : (n : Node) (e : Effect) (entry : ℕ → ℕ → Bool) →
            node T port ≡ Some (leaving entry e.node).node → Good e → AtHand m
        left n e entry is good =
            subst AtHand (ap (λ x. unwrap_or x m) (sym is ∙ now))
            (leaves_at_hand entry e.node good)

        -- no node closed an end
        not_closed : (n : Node) (e : Effect) (entry : ℕ → ℕ → Bool) (peer : ℕ) →
            node S port ≡ Some n → node T port ≡ Some (leaving entry e.node).node →
            is_open n peer ≡ true → is_open e.node peer ≡ false → ⊥
        not_closed n e entry peer here is o shut =
            never (is_open e.node peer)
            (open_still port peer n (leaving entry e.node).node here is o) shut

        -- a node that acts by the event's rule
        by_rule : (event : Event) → StartsPlain event → (n : Node) (e : Effect)
            (entry : ℕ → ℕ → Bool) → IsActOf port event → node S port ≡ Some n →
            IsRuleOf table act S event n e →
            node T port ≡ Some (leaving entry e.node).node → Good e
        by_rule (events.Start actor selector values) plain n e entry own here r is =
            good_there (_) e (start_good table selector values n plain (was port n here)) r
        by_rule (events.Run actor) plain n e entry own here r is =
            good_there (_) e (run_good act (context table S n) shows (was port n here)) r
        by_rule (events.Close actor peer) plain n e entry own here r is =
            absurd (not_closed n e entry peer here is r.0
            (subst (λ (d : Effect). is_open d.node peer ≡ false) (sym r.1) (closed_now peer n)))
        by_rule (events.Timeout actor) plain n e entry own here r is =
            good_there (_) e (time_out_good n (was port n here)) r
        by_rule _ plain n e entry own here r is = absurd own

        module _ (from : ℕ) (n : Node) (item : Item) (behind : List Item)
            (here : node S port ≡ Some n) (waits : queue S from port ≡ Some (item ∷ behind))
            (ends : is_open n from ≡ true) where
          -- the state without the item
          abbrev U : State
          U = without_oldest S from port behind

          -- what the take is judged by
          abbrev c : Context
          c = context table U n

          -- the node stands at its port
          home : n.port ≡ port
          home = h.lent.home.each port n here

          -- it has no end towards itself
          itself : is_open n port ≡ false
          itself =
              ap (λ found. opens (part_seen links found) port) (sym here)
              ∙ h.lent.stands.kept.hold.apart port

          -- so each end is towards another
          apart : (peer : ℕ) → is_open n peer ≡ true → (peer == n.port) ≡ false
          apart peer o = fails (peer == n.port) (λ e.
              never (is_open n port) (subst (λ p. is_open n p ≡ true)
              (eqb-true peer n.port e ∙ home) o) itself)

          -- and not towards the node that takes
          other : (port == from) ≡ false
          other = fails (port == from) (λ e.
              never (is_open n port) (subst (λ p. is_open n p ≡ true)
              (sym (eqb-true port from e)) ends) itself)

          -- what has an entry had one
          entry_before : (s : ℕ) → has_entry U from (object_at port s) ≡ true →
              has_entry S from (object_at port s) ≡ true
          entry_before s x =
              let o = object_at port s in
              let back = λ (i : Item). has_object (released from port i) o in
              entry_by _ _ _ _ (is_reached S from o) (some_passes (is_holder o) (node S from))
              (is_under_way S from o) (is_on_its_way_back S from o)
              (ap (some_passes (λ m. is_open m from)) (requeued from port port behind S.stations))
              (ap (some_passes (is_holder o)) (requeued from port from behind S.stations))
              (ap (some_passes (list_any (λ i. has_object (exported port from i) o)))
              (elsewhere_stays from port behind S.stations port from other))
              (λ y. ap (some_passes (list_any back)) waits
              ∙ or_right (back item) (list_any back behind)
              (ap (some_passes (list_any back))
              (sym (that_changed from port behind (item ∷ behind) S.stations waits)) ∙ y)) x

          -- so it is stored
          entered : (s : ℕ) → has_entry U from (own n s) ≡ true →
              is_some (stored s n.heap) ≡ true
          entered s x =
              ap (some_passes (λ (m : Node). is_some (stored s m.heap))) (sym here)
              ∙ (entered_stored S (record {
                kept = h.lent.stands.kept;
                home = h.lent.home;
                entries = h.lent.backed.entries;
              })).each from (object_at port s)
              (entry_before s (ap (λ p. has_entry U from (object_at p s)) (sym home) ∙ x))

          -- it refuses no ask
          granted : is_gone item ≡ false
          granted =
              none_gone item behind
              (ap (λ found. total gone_of (wire_seen links found)) (sym waits)
              ∙ (h.lent.backed.backed (reach table seats S h.lent.stands open_before)).0 from port)

          -- a take
          took : (e : Effect) (entry : ℕ → ℕ → Bool) → e ≡ take_effect c from item →
              node T port ≡ Some (leaving entry e.node).node → Good e
          took e entry is then =
              subst Good (sym is)
              (take_good c from (was port n here) apart ends entered item granted (no_end item is))
            where
              no_end : (x : Item) → e ≡ take_effect c from x → IsNoEnd x
              no_end (items.End serials) is =
                  not_closed n e entry from here then ends
                  (subst (λ (d : Effect). is_open d.node from ≡ false) (sym is)
                  (closed_now from (holding (exported from n.port (items.End serials)) n)))
              no_end (items.Call number m) is = tt
              no_end (items.Oneway m) is = tt
              no_end (items.Reply number p) is = tt
              no_end (items.RootAnswer number p) is = tt
              no_end (items.Raised number x) is = tt
              no_end (items.RootAsk number) is = tt
              no_end (items.Ask serial token) is = tt
              no_end (items.Granted serial token) is = tt
              no_end (items.Gone serial token) is = tt
              no_end (items.Left serial) is = tt
              no_end (items.Settled number) is = tt

        -- the node after the event
        by_step : NodeStep table act S event port (node T port) → AtHand m
        by_step (Stands same) = was port m (sym same ∙ now)
        by_step (Acted n e entry own here r is) =
            left n e entry is (by_rule event plain n e entry own here r is)
        by_step (Took from n item behind e entry is here waits r then) =
            left n e entry then (took from n item behind here waits r.0 e entry r.1 then)

    -- a step
    step_hand : StandsHand T
    step_hand = record {
      lent = lent_then;
      hand = λ open_all port m now.
          by_step open_all port m now (node_step table act S event port);
    }

  -- events, one after another
  after_events : (events : List Event) → AllByRecursion StartsPlain events → (s : Stepped) →
      StandsHand s.state → StandsHand (steps table act events s).state
  after_events [] plain s h = h
  after_events (e ∷ es) plain s h =
      after_events es plain.1 (followed s (step table act s.state e))
      (step_hand s.state e plain.0 h)

  -- a machine opens so
  opening_hand : StandsHand (opening table seats)
  opening_hand = record {
    lent = opening_lent table seats;
    hand = λ _ port n here.
        let all = map (λ s. s.node) (by_port seats) in
        opened table all (λ p m. AtHand m) (λ s. opens_hand all s) (by_port seats) port n here;
  }
    where
      opens_hand : (all : List ℕ) (s : Seat) → AtHand (opening_node table all s)
      opens_hand all s =
          let m = opening_node table all s in
          record {
            heap = (blank_within (is_at_hand m) table s.root, tt);
            stack = tt;
            root = own_hand m (own m 1) (own_is m 1) (stored_one 1 (blank table s.root) []);
          }

  -- so it is in every state that a machine comes to
  pub reached_hand : (events : List Event) → AllByRecursion StartsPlain events →
      StandsHand (reached table act seats events)
  reached_hand events plain =
      after_events events plain (skipped (opening table seats)) opening_hand
