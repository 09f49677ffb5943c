-- Each event at which a node acts keeps a network in agreement with the state.
use Rattle.do_network.specs.declared.input.Input.TheVariants as inputs
use Rattle.std.proofs.Common.{◌≡◌, ℕ, false, cond, not, List, refl, sym, ap, ◌∙◌, subst}
use Rattle.std.specs.Prelude.{None, Option, Some, option_and_then, option_map, unwrap_or}
use Rattle.do_base.specs.declared.values.value.Value.{Value}
use Rattle.do_base.specs.declared.events.event.Event.TheVariants.{Close, Run, Start, Timeout}
use Rattle.do_class.specs.Class.{Class}
use Rattle.do_machine.specs.declared.{node.Node.Node, state.{State.State, Stepped.Stepped}}
use Rattle.do_machine.specs.{Commit.{moved, skipped}, Context.context, Entry.has_entry}
use Rattle.do_machine.specs.{Objects.object_at, Start.start_effect, State.{is_open, node}}
use Rattle.do_machine.specs.{Step.{moved_by, step}, ends.{Closing.closing, TimeOut.time_out}}
use Rattle.do_machine.specs.run.Run.{Acting, run_effect}
use Rattle.do_facts.specs.links.LinksAreKept.{LinksAreKept}
use Rattle.do_network.specs.{declared.input.Input.Input, Links.Part, Net.{Net, Place, part_at}}
use Rattle.do_network.specs.{Net.place_at, Own.site_context, Site.{enabled_input, moves}}
use Rattle.do_network.specs.{Spelled.SendsSpelled, Step.{net_moved, net_skipped, net_step}}
use Rattle.do_network.proofs.JudgedAlike.{context_alike}
use Rattle.do_agreement.specs.{Agrees.{Agrees, StepAgrees}, Classed.ClassesAreTold}
use Rattle.do_agreement.proofs.acts.ActsAgree.{act_if, close_if, node_is, skip_agrees}
use Rattle.do_agreement.proofs.commits.{EntriesJudged.counts_judge, Moving.shown_but}

-- a site of a network that agrees is judged as the machine's node
pub judged_so : (table : List Class) (N : Net) (S : State) → Agrees table N S → (port : ℕ)
    (p : Part) → part_at N port ≡ Some p →
    site_context table p.own ≡ context table S p.own.node
judged_so table N S agrees port p there =
    let t = agrees.tallies in
    context_alike table S p.own (record {
      classes = agrees.classes port p there;
      entries = λ peer serial.
          counts_judge table port p.own.node N t.under_way S (λ a m. false) t.counts
          (shown_but port N t.under_way S t.shows p there) p there (λ k. refl) (λ k. refl) peer
          serial
          ∙ ap (λ k. has_entry S peer
          (object_at k serial))
          (sym (t.counts.owns port p there).port_is);
    })

module _ (table : List Class) (act : Acting) (N : Net) (S : State) (agrees : Agrees table N S)
    (kept : LinksAreKept S) (told : ClassesAreTold S) where
  -- a site's input, as the machine's effect, where there is a place
  by_place : (port : ℕ) (input : Input) (machine : Option Node → Option Stepped) →
      unwrap_or (machine None) (skipped S) ≡ skipped S →
      ((pl : Place) → place_at N port ≡ Some pl →
      StepAgrees table
      (unwrap_or (option_map (net_moved port N) (enabled_input table act pl.part input))
      (net_skipped N))
      (unwrap_or (machine (Some pl.part.own.node)) (skipped S))) →
      (found : Option Place) → place_at N port ≡ found →
      StepAgrees table
      (unwrap_or (elim (option_map (λ (x : Place). x.part) found) [
        | None ↦ None
        | Some p ↦ option_map (net_moved port N) (enabled_input table act p input)
      ]) (net_skipped N))
      (unwrap_or (machine (node S port)) (skipped S))
  by_place port input machine none some None k =
      subst (λ o. StepAgrees table (net_skipped N) (unwrap_or (machine o) (skipped S)))
      (ap (λ (o : Option Place). option_map (λ (r : Part). r.own.node)
      (option_map (λ (x : Place). x.part) o)) (sym k)
      ∙ agrees.tallies.shows.nodes port)
      (subst (StepAgrees table (net_skipped N)) (sym none)
      (skip_agrees table act N S agrees kept told))
  by_place port input machine none some (Some pl) k =
      subst (λ o. StepAgrees table
      (unwrap_or (option_map (net_moved port N) (enabled_input table act pl.part input))
      (net_skipped N)) (unwrap_or (machine o) (skipped S)))
      (sym (node_is table act N S agrees kept told port pl.part
      (ap (option_map (λ (x : Place). x.part)) k)))
      (some pl k)

  -- a start
  pub start_agrees : (port : ℕ) (selector : List ℕ) (values : List Value) →
      SendsSpelled table act N (Start port selector values) →
      StepAgrees table (net_step table act N (Start port selector values))
      (step table act S (Start port selector values))
  start_agrees port selector values spelled =
      let event = Start port selector values in
      by_place port (inputs.Start selector values)
      (λ n. moved_by port S (option_and_then (start_effect table selector values) n)) refl
      (λ pl there.
      act_if table act N S agrees kept told port pl there event refl
      (start_effect table selector values pl.part.own.node) (λ e q. q)
      (λ e q. spelled pl.part (ap (option_map (λ (x : Place). x.part)) there) (moves pl.part e)
      (ap (option_map (moves pl.part)) q)))
      (place_at N port) refl

  -- a run
  pub run_agrees : (port : ℕ) →
      SendsSpelled table act N (Run port) →
      StepAgrees table (net_step table act N (Run port)) (step table act S (Run port))
  run_agrees port spelled =
      by_place port inputs.Run
      (λ n. moved_by port S (option_and_then (λ m. run_effect act (context table S m)) n)) refl
      (λ pl there.
      let site = ap (option_map (λ (x : Place). x.part)) there in
      let same = ap (run_effect act) (judged_so table N S agrees port pl.part site) in
      subst (λ found. StepAgrees table
      (unwrap_or (option_map (net_moved port N) (option_map (moves pl.part) found))
      (net_skipped N))
      (unwrap_or (moved_by port S (run_effect act (context table S pl.part.own.node))) (skipped S)))
      (sym same)
      (act_if table act N S agrees kept told port pl there (Run port) refl
      (run_effect act (context table S pl.part.own.node)) (λ e q. q)
      (λ e q. spelled pl.part site (moves pl.part e)
      (ap (option_map (moves pl.part)) (same ∙ q)))))
      (place_at N port) refl

  -- a time-out
  pub timeout_agrees : (port : ℕ) →
      SendsSpelled table act N (Timeout port) →
      StepAgrees table (net_step table act N (Timeout port)) (step table act S (Timeout port))
  timeout_agrees port spelled =
      by_place port inputs.Timeout (λ n. moved_by port S (option_and_then time_out n)) refl
      (λ pl there.
      act_if table act N S agrees kept told port pl there (Timeout port) refl
      (time_out pl.part.own.node) (λ e q. q)
      (λ e q. spelled pl.part (ap (option_map (λ (x : Place). x.part)) there) (moves pl.part e)
      (ap (option_map (moves pl.part)) q)))
      (place_at N port) refl

  -- a close
  pub close_agrees : (port peer : ℕ) →
      SendsSpelled table act N (Close port peer) →
      StepAgrees table (net_step table act N (Close port peer)) (step table act S (Close port peer))
  close_agrees port peer spelled =
      by_place port (inputs.Close peer)
      (λ n. elim n [
        | None ↦ None
        | Some m ↦ cond (not (is_open m peer)) None (Some (moved port S (closing peer m)))
      ]) refl
      (λ pl there.
      close_if table act N S agrees kept told port pl there (Close port peer) refl
      (is_open pl.part.own.node peer) (closing peer pl.part.own.node) (λ o. (o, refl))
      (λ o. spelled pl.part (ap (option_map (λ (x : Place). x.part)) there)
      (moves pl.part (closing peer pl.part.own.node))
      (ap (λ b. cond (not b) None (Some (moves pl.part (closing peer pl.part.own.node)))) o)))
      (place_at N port) refl
