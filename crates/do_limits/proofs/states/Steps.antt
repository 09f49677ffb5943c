-- Every state that a machine comes to has only what a message can carry.
use Rattle.do_machine.specs.declared.item.Item.TheVariants as items
use Rattle.do_facts.specs.nodes.Cause as cause
use Rattle.do_limits.proofs.Signatures.{HasMethods}
use Rattle.std.proofs.Common.{◌≡◌, ℕ, Bool, List, [], ◌∷◌, arith, map, refl, sym, subst, ◌∙◌}
use Rattle.std.{specs.Prelude.{All, Some}, proofs.lemmas.List.Elements.recursion_from_All}
use Rattle.std.specs.List.{AllByRecursion, insert}
use Rattle.do_base.specs.declared.events.event.Event.{Event, TheVariants.Start}
use Rattle.do_class.specs.Class.{Class}
use Rattle.do_machine.specs.declared.{node.Node.Node, state.{Effect.Effect, Seat.Seat, State.State}}
use Rattle.do_machine.specs.{declared.state.Stepped.Stepped, Commit.skipped, Context.context}
use Rattle.do_machine.specs.{Lists.all_inserted, State.{change, node, with_queue}, Step.step}
use Rattle.do_machine.specs.World.{IsSeat, by_port, is_before, opening, opening_station, others}
use Rattle.do_machine.specs.{take.Take.take_effect, run.Run.Acting}
use Rattle.do_facts.{proofs.machine.follows.States.requeued, specs.Reached.reached}
use Rattle.do_facts.specs.steps.IsStep.{Acts, Checks, IsRuleOf, IsStep, Loses, Skips, Takes}
use Rattle.do_facts.proofs.steps.EachIsStep.{step_is}
use Rattle.do_machine.specs.check.Blocks.{followed, steps}
use Rattle.do_limits.specs.SendableActs.{AllStartSendable, KeepsSendable, StartsSendable}
use Rattle.do_limits.specs.SendableStates.{ItemIsReadable, ItemIsSendable, QueueIsSendable}
use Rattle.do_limits.specs.SendableStates.{StateIsSendable, StationIsSendable}
use Rattle.do_facts.proofs.{EachOfLists.each_inserted, nodes.EventsDo.{cause_of, judge, rule_does}}
use Rattle.do_facts.proofs.nodes.{Judges.judge_of, TakeWalks.by_take}
use Rattle.do_limits.proofs.{Lists.each_placed, moves.{Atoms.item_comes, Effects.does_sendable}}
use Rattle.do_limits.proofs.{moves.Packets.IsGiven, states.States.{context_sendable, moves}}
use Rattle.do_limits.proofs.states.States.{node_sendable, queue_sendable, requeues}
use Rattle.do_limits.proofs.Effects.{EffectIsSendable, blank_sendable}
use Rattle.do_limits.proofs.takes.Readable.{sent_is_readable}

-- ---- steps

module _ (table : List Class) (act : Acting) (small : HasMethods table)
    (acts : KeepsSendable table act) (S : State) (ok : StateIsSendable table S) where
  -- what an event gives
  given : (event : Event) (n : Node) (e : Effect) → StartsSendable event →
      IsRuleOf table act S event n e → IsGiven (cause_of event)
  given (Start port selector values) n e k rule = k
  given _ n e k rule = tt

  -- the effect of an event's rule
  ruled : (event : Event) → StartsSendable event → (port : ℕ) (n : Node) (e : Effect) →
      node S port ≡ Some n → IsRuleOf table act S event n e → EffectIsSendable table port e
  ruled event k port n e here rule =
      subst (λ x. EffectIsSendable table x e) (node_sendable table S ok port n here).0.numbers.0
      (does_sendable (judge table act S event n) (record {
        methods = small;
        acts = acts;
        context = context_sendable table S ok port n here;
        given = given event n e k rule;
      }) e (rule_does table act S event n e rule) tt)

  -- what an event comes to
  came : (event : Event) → StartsSendable event → (s : Stepped) →
      IsStep table act S event s → StateIsSendable table s.state
  came event k s (Skips e) = subst (λ x. StateIsSendable table x.state) (sym e) ok
  came event k s (Acts port n d own here rule e) =
      subst (λ x. StateIsSendable table x.state) (sym e)
      (moves table port S d (ruled event k port n d here rule) ok)
  came event k s (Takes port from n item rest d is here rule waits e) =
      let w = queue_sendable table S ok from port (item ∷ rest) waits in
      let T = change from (with_queue port rest) S in
      let after = requeues table from port rest w.1 S ok in
      let still = requeued from port port rest S.stations ∙ here in
      let home = (node_sendable table S ok port n here).0.numbers.0 in
      let c = context table T n in
      let j = judge_of act c (cause.Take from item) in
      let took = does_sendable j (record {
        methods = small;
        acts = acts;
        context = context_sendable table T after port n still;
        given = tt;
      }) (take_effect c from item) (by_take j from rule.0 item refl)
      (item_comes table n.port from item
      (subst (λ x. ItemIsReadable table from x item) (sym home)
      (sent_is_readable table from port item w.0))) in
      subst (λ x. StateIsSendable table x.state) (sym e)
      (moves table port T d
      (subst (EffectIsSendable table port) (sym rule.1)
      (subst (λ x. EffectIsSendable table x (take_effect c from item)) home took)) after)
  came event k s (Loses from to after waiting is waits few e) =
      subst (λ x. StateIsSendable table x.state) (sym e)
      (requeues table from to (insert waiting after (items.End []))
      (each_inserted (ItemIsSendable table from to) waiting after (items.End []) tt
      (queue_sendable table S ok from to waiting waits)) S ok)
  came event k s (Checks is e) = subst (λ x. StateIsSendable table x.state) (sym e) ok

  -- a step
  pub step_sendable : (event : Event) → StartsSendable event →
      StateIsSendable table (step table act S event).state
  step_sendable event k = came event k (step table act S event) (step_is S table act event)

-- ---- states that are reached

-- empty queues
empty_queues : (table : List Class) (from : ℕ) (ports : List ℕ) →
    AllByRecursion (QueueIsSendable table from) (map (λ p. record { to = p; items = [] }) ports)
empty_queues table from [] = tt
empty_queues table from (p ∷ ports) = (tt, empty_queues table from ports)

-- stations as they open
opened : (table : List Class) (ports : List ℕ) (seats : List Seat) →
    AllByRecursion (IsSeat table) seats →
    AllByRecursion (StationIsSendable table) (map (opening_station table ports) seats)
opened table ports [] h = tt
opened table ports (s ∷ seats) h =
    let blanks = blank_sendable table s.root h.0.root in (
      record {
        port = h.0.port;
        node = record {
          heap = (record { serial = omega arith; slots = blanks.0; whole = blanks.1 }, tt);
          stack = tt;
          numbers = (refl, (omega arith, (omega arith, (tt, tt))));
        };
        queues = empty_queues table s.node (others ports s.node);
        classes = (h.0.root, tt);
      },
      opened table ports seats h.1,
    )

-- elements that are inserted one after another
each_put : {X : Type 0} (P : X → Type 0) (before : X → X → Bool) (xs : List X) →
    AllByRecursion P xs → AllByRecursion P (all_inserted before xs)
each_put P before [] h = tt
each_put P before (x ∷ xs) h =
    each_placed P before x (all_inserted before xs) h.0 (each_put P before xs h.1)

-- a machine as it opens
pub opening_sendable : (table : List Class) (seats : List Seat) → All (IsSeat table) seats →
    StateIsSendable table (opening table seats)
opening_sendable table seats h = record {
  stations = opened table (map (λ s. s.node) (by_port seats)) (by_port seats)
      (each_put (IsSeat table) is_before seats (recursion_from_All (IsSeat table) seats h));
}

module _ (table : List Class) (act : Acting) (small : HasMethods table)
    (acts : KeepsSendable table act) where
  -- events, one after another
  after_events : (events : List Event) → AllStartSendable events → (s : Stepped) →
      StateIsSendable table s.state → StateIsSendable table (steps table act events s).state
  after_events [] k s h = h
  after_events (e ∷ es) k s h =
      after_events es k.1 (followed s (step table act s.state e))
      (step_sendable table act small acts s.state h e k.0)

  -- every state that a machine comes to
  pub reached_sendable : (seats : List Seat) (events : List Event) → All (IsSeat table) seats →
      AllStartSendable events → StateIsSendable table (reached table act seats events)
  reached_sendable seats events h k =
      after_events events k (skipped (opening table seats)) (opening_sendable table seats h)
