-- A network agrees with the state after a node acted.
use Rattle.do_network.specs.declared.input.Done.TheVariants as dones
use Rattle.std.proofs.Common.{◌≡◌, ℕ, Bool, true, false, cond, not, List, [], refl, sym, ap, ◌∙◌}
use Rattle.std.specs.Prelude.{None, Option, Some, is_some, option_map, unwrap_or}
use Rattle.do_base.specs.{declared.events.event.Event.Event, names.Names.ObjectName}
use Rattle.do_class.specs.{Class.Class, declared.ids.ClassId.ClassId}
use Rattle.do_machine.specs.declared.{node.Node.Node, state.{Effect.Effect, State.State}}
use Rattle.do_machine.specs.{Commit.{moved, skipped}, Context.around, State.{class_of, is_known}}
use Rattle.do_machine.specs.{State.node, Step.moved_by, held.Leaving.leaving, run.Run.Acting}
use Rattle.do_facts.specs.links.{Links.links_of, LinksAreKept.LinksAreKept, Sound.IsSound}
use Rattle.do_facts.specs.steps.IsStep.{Acts, IsActOf, IsRuleOf, IsStep}
use Rattle.do_facts.proofs.{links.Bridge.link_bridge, steps.OthersStay.class_stays}
use Rattle.do_network.specs.{Counting.counted, Links.Part, Net.{Net, Place, part_at, place_at}}
use Rattle.do_network.specs.{Own.{class_kept, is_counted}, Site.moves, Spelled.SentSpelled}
use Rattle.do_network.specs.Step.{net_moved, net_skipped, place_after}
use Rattle.do_agreement.specs.{Agrees.{Agrees, StepAgrees}, Classed.ClassesAreTold}
use Rattle.do_agreement.specs.Tallies.{left_after}
use Rattle.do_agreement.proofs.classes.ClassesAfter.{IsClassed, classes_moved, classes_stay_so}
use Rattle.do_agreement.proofs.classes.{ClassesAfter.known_classed, KnownAfter.known_after}
use Rattle.do_agreement.proofs.{places.PlacesChanged.by_part, acts.StepTallies.act_outcome}
use Rattle.do_agreement.proofs.acts.StepTallies.{act_sound, act_tallies, rule_moves, sound_here}

-- what a node knows once it left what it does without, it knew before
pub left_known : (n : Node) (entry : ℕ → ℕ → Bool) →
    IsSound (links_of n) → (o : ObjectName) →
    is_known (leaving entry n).node o ≡ true → is_known n o ≡ true
left_known n entry ok =
    known_after (λ o. is_known n o ≡ true) n [] (leaving entry n) (link_bridge.leave entry n ok)
    (λ o h. h) tt

module _ (table : List Class) (act : Acting) (N : Net) (S : State) (agrees : Agrees table N S)
    (kept : LinksAreKept S) (told : ClassesAreTold S) where
  -- an event that is skipped
  pub skip_agrees : StepAgrees table (net_skipped N) (skipped S)
  skip_agrees = record { agrees = agrees; outcome = refl }

  -- a site is the machine's node
  pub node_is : (port : ℕ) (p : Part) → part_at N port ≡ Some p → node S port ≡ Some p.own.node
  node_is port p h =
      sym (agrees.tallies.shows.nodes port) ∙ ap (option_map (λ (r : Part). r.own.node)) h

  -- what a node knows has a class
  pub known_some : (port : ℕ) (p : Part) → part_at N port ≡ Some p → (o : ObjectName) →
      is_known p.own.node o ≡ true → is_some (class_of S o) ≡ true
  known_some port p h = told.known port p.own.node (node_is port p h)

  module _ (port : ℕ) (pl : Place) (there : place_at N port ≡ Some pl) where
    -- the site
    abbrev p : Part
    p = pl.part

    -- it is there
    site_there : part_at N port ≡ Some p
    site_there = ap (option_map (λ x. x.part)) there

    -- an effect of the site's node
    act_agrees : (event : Event) (e : Effect) → IsActOf port event →
        IsRuleOf table act S event p.own.node e → SentSpelled table (moves p e) →
        StepAgrees table (net_moved port N (moves p e)) (moved port S e)
    act_agrees event e own rule spelled =
        let n = p.own.node in
        let here = node_is port p site_there in
        let sound = sound_here S kept port n here in
        let runs = rule_moves table act S event n e sound rule in
        let T = (moved port S e).state in
        let form : IsStep table act S event (moved port S e) =
        Acts port n e own here rule refl in
        let still = λ (o : ObjectName) (c : ClassId).
        class_stays o c S event (moved port S e) form in
        let some = known_some port p site_there in
        let classes = agrees.classes port p site_there in
        record {
          agrees = record {
            tallies = act_tallies kept agrees.tallies port there act event e rule dones.Moved
                spelled;
            classes = by_part port (place_after (moves p e)) (λ x. refl) N pl there
                (λ a z. (o : ObjectName) → class_kept z.own o ≡ (around T z.own.node).class_of o)
                (classes_moved S T still p.own e (left_after p.own e)
                (known_after (IsClassed S p.own.classes) n [] e runs
                (known_classed S p.own some classes) tt)
                (left_known e.node (is_counted (counted p.own e))
                (act_sound kept agrees.tallies port there act event e rule)))
                (λ a z ne k. classes_stay_so S T still z.own (known_some a z k)
                (agrees.classes a z k));
          };
          outcome = act_outcome kept agrees.tallies port there act event e rule dones.Moved spelled;
        }

    -- an effect of the site's node, where there is one
    pub act_if : (event : Event) → IsActOf port event → (found : Option Effect) →
        ((e : Effect) → found ≡ Some e → IsRuleOf table act S event p.own.node e) →
        ((e : Effect) → found ≡ Some e → SentSpelled table (moves p e)) →
        StepAgrees table
        (unwrap_or (option_map (net_moved port N) (option_map (moves p) found)) (net_skipped N))
        (unwrap_or (moved_by port S found) (skipped S))
    act_if event own None rule spelled = skip_agrees
    act_if event own (Some e) rule spelled =
        act_agrees event e own (rule e refl) (spelled e refl)

    -- a close
    pub close_if : (event : Event) → IsActOf port event → (b : Bool) (e : Effect) →
        (b ≡ true → IsRuleOf table act S event p.own.node e) →
        (b ≡ true → SentSpelled table (moves p e)) →
        StepAgrees table
        (unwrap_or (option_map (net_moved port N) (cond (not b) None (Some (moves p e))))
        (net_skipped N))
        (unwrap_or (cond (not b) None (Some (moved port S e))) (skipped S))
    close_if event own false e rule spelled = skip_agrees
    close_if event own true e rule spelled = act_agrees event e own (rule refl) (spelled refl)
