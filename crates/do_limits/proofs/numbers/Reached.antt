-- After so many events the numbers of nodes are within their bounds.
use Rattle.do_facts.specs.nodes.Cause as cause
use Rattle.do_machine.specs.declared.item.Item.TheVariants as items
use Rattle.do_limits.proofs.Signatures.{HasMethods}
use Rattle.std.proofs.Common.{◌≡◌, ◌==◌, ◌+◌, ℕ, Bool, true, false, List, [], ◌∷◌, length, map}
use Rattle.std.{proofs.Common.{refl, sym, ap, subst, ◌∙◌, arith}, specs.Prelude.{All, Some, suc}}
use Rattle.std.{specs.{Prelude.unwrap_or, List.insert}, proofs.lemmas.Bool.eqb-true}
use Rattle.do_base.specs.declared.events.event.Event.{Event}
use Rattle.do_class.specs.Class.{Class}
use Rattle.do_machine.specs.declared.{node.Node.Node, state.{Effect.Effect, Seat.Seat, State.State}}
use Rattle.do_machine.specs.{declared.state.Stepped.Stepped, Commit.{commit, moved, skipped}}
use Rattle.do_machine.specs.{Context.{around, context}, State.{change, node, with_queue}, Step.step}
use Rattle.do_machine.specs.{World.{IsSeat, by_port, opening}, check.Blocks.{followed, steps}}
use Rattle.do_machine.specs.{held.Leaving.leaving, run.Run.Acting}
use Rattle.do_facts.{proofs.machine.follows.States.requeued, specs.Reached.reached}
use Rattle.do_facts.specs.steps.IsStep.{Acts, Checks, IsRuleOf, IsStep, Loses, Skips, Takes}
use Rattle.do_facts.proofs.{OpeningAsNet.opened, steps.EachIsStep.step_is}
use Rattle.do_facts.proofs.steps.OthersStay.{move_leaves_others, move_leaves_own}
use Rattle.do_limits.specs.Numbers.{AllNumbersWithin, NumbersWithin}
use Rattle.do_limits.specs.SendableActs.{AllStartSendable, KeepsSendable}
use Rattle.do_limits.specs.SendableStates.{StateIsSendable}
use Rattle.do_facts.proofs.nodes.{TakeWalks.by_take, Judges.judge_of, EventsDo.{judge, rule_does}}
use Rattle.do_limits.proofs.{numbers.MovesRise.{Rises, by_moves}, moves.Atoms.item_comes}
use Rattle.do_limits.proofs.{takes.Readable.sent_is_readable, states.States.queue_sendable}
use Rattle.do_limits.proofs.states.Steps.{opening_sendable, step_sendable}

-- the effect of an event's rule
ruled : (table : List Class) (act : Acting) (S : State) (event : Event) (n : Node) (e : Effect) →
    IsRuleOf table act S event n e → Rises n e.node
ruled table act S event n e rule =
    by_moves (judge table act S event n) table n.port tt (rule_does table act S event n e rule)

module _ (count : ℕ) where
  -- one more event
  more : (n : Node) → NumbersWithin count n → NumbersWithin (suc count) n
  more n h = record {
    call = omega (arith, h.call);
    serial = omega (arith, h.serial);
    token = omega (arith, h.token);
  }

  -- one that raises numbers
  raised : (n : Node) (e : Effect) → NumbersWithin count n → Rises n e.node →
      NumbersWithin (suc count) e.node
  raised n e h k = record {
    call = omega (arith, h.call, k.call);
    serial = omega (arith, h.serial, k.serial);
    token = omega (arith, h.token, k.token);
  }

  -- a node moves
  moves : (port : ℕ) (n : Node) (e : Effect) (S : State) → node S port ≡ Some n → Rises n e.node →
      AllNumbersWithin count S → AllNumbersWithin (suc count) (moved port S e).state
  moves port n e S here up all other m h = go (other == port) refl
    where
      go : (b : Bool) → (other == port) ≡ b → NumbersWithin (suc count) m
      go false k = more m (all other m (sym (move_leaves_others port other e S k) ∙ h))
      go true k =
          let d = leaving (around (commit port e S) e.node).entry e.node in
          let is : d.node ≡ m =
          ap (λ x. unwrap_or x m)
          (sym (move_leaves_own port n e S here)
          ∙ ap (node (moved port S e).state) (sym (eqb-true other port k)) ∙ h) in
          let up = raised n e (all port n here) up in
          subst (NumbersWithin (suc count)) is (record {
            call = up.call;
            serial = up.serial;
            token = up.token;
          })

  -- what an event comes to
  came : (table : List Class) (act : Acting) (S : State) (event : Event) (s : Stepped) →
      StateIsSendable table S → IsStep table act S event s → AllNumbersWithin count S →
      AllNumbersWithin (suc count) s.state
  came table act S event s ok (Skips e) all other m h =
      more m (all other m (ap (λ x. node x.state other) (sym e) ∙ h))
  came table act S event s ok (Acts port n d own here rule e) all other m h =
      moves port n d S here (ruled table act S event n d rule) all other m
      (ap (λ x. node x.state other) (sym e) ∙ h)
  came table act S event s ok (Takes port from n item rest d is here rule waits e) all other m h =
      let U = change from (with_queue port rest) S in
      let w = queue_sendable table S ok from port (item ∷ rest) waits in
      let j = judge_of act (context table U n) (cause.Take from item) in
      moves port n d U (requeued from port port rest S.stations ∙ here)
      (subst (λ d. Rises n d.node) (sym rule.1)
      (by_moves j table port (item_comes table port from item
      (sent_is_readable table from port item w.0))
      (by_take j from rule.0 item refl)))
      (λ p k q. all p k (sym (requeued from port p rest S.stations) ∙ q)) other m
      (ap (λ x. node x.state other) (sym e) ∙ h)
  came table act S event s ok (Loses from to after waiting is waits few e) all other m h =
      more m (all other m
      (sym (requeued from to other (insert waiting after (items.End [])) S.stations)
      ∙ ap (λ x. node x.state other) (sym e) ∙ h))
  came table act S event s ok (Checks is e) all other m h =
      more m (all other m (ap (λ x. node x.state other) (sym e) ∙ h))

-- a machine as it opens
opening_numbers : (table : List Class) (seats : List Seat) →
    AllNumbersWithin 0 (opening table seats)
opening_numbers table seats port n h =
    opened table (map (λ s. s.node) (by_port seats)) (λ p m. NumbersWithin 0 m)
    (λ s. record { call = omega arith; serial = omega arith; token = omega arith })
    (by_port seats) port n h

module _ (table : List Class) (act : Acting) (small : HasMethods table)
    (acts : KeepsSendable table act) where
  -- events, one after another
  after_events : (events : List Event) → AllStartSendable events → (s : Stepped) →
      StateIsSendable table s.state → (count : ℕ) → AllNumbersWithin count s.state →
      AllNumbersWithin (count + length events) (steps table act events s).state
  after_events [] k s ok count all =
      subst (λ n. AllNumbersWithin n s.state) (omega arith) all
  after_events (e ∷ es) k s ok count all =
      subst (λ n. AllNumbersWithin n (steps table act (e ∷ es) s).state) (omega arith)
      (after_events es k.1 (followed s (step table act s.state e))
      (step_sendable table act small acts s.state ok e k.0) (suc count)
      (came count table act s.state e (step table act s.state e) ok
      (step_is s.state table act e) all))

  -- every state that a machine comes to
  pub reached_numbers : (seats : List Seat) (events : List Event) → All (IsSeat table) seats →
      AllStartSendable events →
      AllNumbersWithin (length events) (reached table act seats events)
  reached_numbers seats events h k =
      let T = reached table act seats events in
      let here : 0 + length events ≡ length events = omega arith in
      subst (λ n. AllNumbersWithin n T) here
      (after_events events k (skipped (opening table seats)) (opening_sendable table seats h) 0
      (opening_numbers table seats))
