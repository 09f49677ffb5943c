-- An event at which a node acts sends what has a spelling.
use Rattle.do_network.specs.declared.input.Input.TheVariants as inputs
use Rattle.std.proofs.Common.{◌≡◌, ◌≤◌, ℕ, Bool, true, false, cond, List, not, refl, sym, ap, ◌∙◌}
use Rattle.std.proofs.Common.{subst, arith}
use Rattle.std.specs.Prelude.{None, Option, Some, option_and_then, option_map, suc, unwrap_or}
use Rattle.do_base.specs.declared.events.event.Event.{Event, TheVariants.{Close, Run, Start}}
use Rattle.do_base.specs.declared.{events.event.Event.TheVariants.Timeout, values.value.Value.Value}
use Rattle.do_class.specs.{Class.Class, Table.IsTable}
use Rattle.do_machine.specs.declared.{node.Node.Node, state.{Effect.Effect, State.State}}
use Rattle.do_machine.specs.{Commit.{moved, skipped}, Context.context, Start.start_effect}
use Rattle.do_machine.specs.{State.{is_open, node}, Step.{moved_by, step}, ends.Closing.closing}
use Rattle.do_machine.specs.{ends.TimeOut.time_out, run.Run.{Acting, run_effect}}
use Rattle.do_facts.specs.steps.IsStep.{IsRuleOf}
use Rattle.do_network.specs.{declared.input.Input.Input, Links.Part, Net.{Net, Place, part_at}}
use Rattle.do_network.specs.{Net.place_at, Site.{Handled, enabled_input, moves}}
use Rattle.do_limits.specs.SendableStates.{StateIsSendable}
use Rattle.do_agreement.proofs.acts.{ActEvents.judged_so, ActsAgree.node_is}
use Rattle.do_agreement.proofs.{agreement.GoesOn.Goes, places.PlacesChanged.some_is}
use Rattle.do_within.{specs.Received.ReceivedWithin, proofs.sites.Acts.{DoesWithin, act_does}}
use Rattle.do_within.proofs.{sent.Effects.WaitsSpelled, sites.Hands.{HandsWithin, hands_received}}
use Rattle.do_within.proofs.{sites.Hands.place_of, events.Within.{AfterSpelled, EventWithin}}

module _ (table : List Class) (t : IsTable table) (act : Acting) (N : Net) (S : State)
    (goes : Goes table N S) (ok : StateIsSendable table S) (events : ℕ)
    (small : suc events ≤ 70368744177664) (all : ReceivedWithin events N) where
  -- an effect of the site's node, where there is one
  effect_if : (event : Event) (port : ℕ) (pl : Place) → place_at N port ≡ Some pl →
      (found : Option Effect) →
      ((e : Effect) → found ≡ Some e → IsRuleOf table act S event pl.part.own.node e) →
      ((e : Effect) → found ≡ Some e → WaitsSpelled table port (moved port S e).state) →
      (h : Handled) → option_map (moves pl.part) found ≡ Some h → DoesWithin table events h
  effect_if event port pl there None rule spelled h q = absurd (cc)
  effect_if event port pl there (Some e) rule spelled h q =
      subst (DoesWithin table events) (some_is (moves pl.part e) h q)
      (act_does goes.agrees goes.links events (omega (arith, small)) port there
      (all port pl.part (ap (option_map (λ (x : Place). x.part)) there)) act event e (rule e refl)
      (spelled e refl))

  -- an act of a site, whose effect is the machine's
  act_within : (event : Event) (port : ℕ) (input : Input) (effect : Node → Option Effect) →
      ((e : Effect) (n : Node) → node S port ≡ Some n → effect n ≡ Some e →
      IsRuleOf table act S event n e) →
      ((p : Part) → part_at N port ≡ Some p →
      enabled_input table act p input ≡ option_map (moves p) (effect p.own.node)) →
      ((n : Node) (e : Effect) → node S port ≡ Some n → effect n ≡ Some e →
      step table act S event ≡ moved port S e) →
      AfterSpelled table act S event → HandsWithin table act events N port input
  act_within event port input effect rule enabled stepped spelled p here h q =
      let at = place_of N port p here in
      let there = ap (option_map (λ (x : Place). x.part)) at.1 in
      let n = at.0.part.own.node in
      let at_node : node S port ≡ Some n =
      node_is table act N S goes.agrees goes.links goes.classes.told port at.0.part there in
      effect_if event port at.0 at.1 (effect n)
      (λ e k. rule e n at_node k)
      (λ e k. subst (λ s. WaitsSpelled table port s.state) (stepped n e at_node k) (spelled port))
      h
      (sym (enabled at.0.part there)
      ∙ ap (λ x. enabled_input table act x input) at.2 ∙ q)

  -- a start
  pub start_within : (port : ℕ) (selector : List ℕ) (values : List Value) →
      AfterSpelled table act S (Start port selector values) →
      EventWithin table act events N (Start port selector values)
  start_within port selector values spelled =
      let input = inputs.Start selector values in
      let does : HandsWithin table act events N port input =
      act_within (Start port selector values) port input (start_effect table selector values)
      (λ e n here q. q) (λ p here. refl)
      (λ n e here q.
      ap (λ o. unwrap_or (moved_by port S (option_and_then (start_effect table selector values) o))
      (skipped S)) here
      ∙ ap (λ f. unwrap_or (moved_by port S f) (skipped S)) q) spelled in
      record {
        sends = λ p k h q. (does p k h q).sent;
        received = hands_received table act events N N all all port input does;
      }

  -- a run
  pub run_within : (port : ℕ) → AfterSpelled table act S (Run port) →
      EventWithin table act events N (Run port)
  run_within port spelled =
      let does : HandsWithin table act events N port inputs.Run =
      act_within (Run port) port inputs.Run (λ n. run_effect act (context table S n))
      (λ e n here q. q)
      (λ p here. ap (λ c. option_map (moves p) (run_effect act c))
      (judged_so table N S goes.agrees port p here))
      (λ n e here q.
      ap (λ o. unwrap_or (moved_by port S (option_and_then
      (λ m. run_effect act (context table S m)) o)) (skipped S)) here
      ∙ ap (λ f. unwrap_or (moved_by port S f) (skipped S)) q) spelled in
      record {
        sends = λ p k h q. (does p k h q).sent;
        received = hands_received table act events N N all all port inputs.Run does;
      }

  -- a time-out
  pub timeout_within : (port : ℕ) → AfterSpelled table act S (Timeout port) →
      EventWithin table act events N (Timeout port)
  timeout_within port spelled =
      let does : HandsWithin table act events N port inputs.Timeout =
      act_within (Timeout port) port inputs.Timeout time_out
      (λ e n here q. q) (λ p here. refl)
      (λ n e here q.
      ap (λ o. unwrap_or (moved_by port S (option_and_then time_out o)) (skipped S)) here
      ∙ ap (λ f. unwrap_or (moved_by port S f) (skipped S)) q) spelled in
      record {
        sends = λ p k h q. (does p k h q).sent;
        received = hands_received table act events N N all all port inputs.Timeout does;
      }

  -- the effect of a close, where the end is open
  abbrev closes : ℕ → Node → Option Effect
  closes peer n = cond (not (is_open n peer)) None (Some (closing peer n))

  -- a close is of an open end
  closes_so : (peer : ℕ) (n : Node) (e : Effect) → closes peer n ≡ Some e →
      (is_open n peer ≡ true) × (e ≡ closing peer n)
  closes_so peer n e = go (is_open n peer)
    where
      go : (b : Bool) → cond (not b) None (Some (closing peer n)) ≡ Some e →
          (b ≡ true) × (e ≡ closing peer n)
      go true q = (refl, sym (ap (λ o. unwrap_or o e) q))
      go false q = absurd (cc)

  -- a close
  pub close_within : (port peer : ℕ) → AfterSpelled table act S (Close port peer) →
      EventWithin table act events N (Close port peer)
  close_within port peer spelled =
      let input = inputs.Close peer in
      let does : HandsWithin table act events N port input =
      act_within (Close port peer) port input (closes peer)
      (λ e n here q. closes_so peer n e q)
      (λ p here. moves_if p (is_open p.own.node peer))
      (λ n e here q.
      let k = closes_so peer n e q in
      ap (λ (o : Option Node). unwrap_or (elim o [
        | None ↦ None
        | Some m ↦ cond (not (is_open m peer)) None (Some (moved port S (closing peer m)))
      ]) (skipped S)) here
      ∙ ap (λ b. unwrap_or (cond (not b) None (Some (moved port S (closing peer n)))) (skipped S))
      k.0
      ∙ ap (moved port S) (sym k.1)) spelled in
      record {
        sends = λ p k h q. (does p k h q).sent;
        received = hands_received table act events N N all all port input does;
      }
    where
      moves_if : (p : Part) (b : Bool) →
          cond (not b) None (Some (moves p (closing peer p.own.node)))
          ≡ option_map (moves p) (cond (not b) None (Some (closing peer p.own.node)))
      moves_if p true = refl
      moves_if p false = refl
