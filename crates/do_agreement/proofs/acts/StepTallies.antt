-- A network tallies with the state after a node acted.
use Rattle.do_facts.specs.Net as nets
use Rattle.std.proofs.Common.{◌≡◌, ℕ, true, false, List, [], refl, sym, ap, ◌∙◌, subst}
use Rattle.std.specs.Prelude.{Some, option_map}
use Rattle.do_base.specs.declared.events.event.Event.{Event}
use Rattle.do_class.specs.Class.{Class}
use Rattle.do_machine.specs.declared.{node.Node.Node, state.{Effect.Effect, State.State}}
use Rattle.do_machine.specs.{Commit.moved, State.node, run.Run.Acting}
use Rattle.do_facts.specs.{View.{AreMoves, part_seen}, links.Links.{Atom, links, links_of}}
use Rattle.do_facts.specs.links.{LinksAreKept.LinksAreKept, Moves.link_rules, Sound.IsSound}
use Rattle.do_facts.specs.steps.IsStep.{IsRuleOf}
use Rattle.do_facts.proofs.{EffectReaches.ok_by, links.Bridge.link_bridge, NodeRuns.by_rule}
use Rattle.do_network.specs.{declared.input.Done.Done, Links.Part}
use Rattle.do_network.specs.{Net.{Net, Place, part_at, place_at}, Site.{handled, moves, site_move}}
use Rattle.do_network.specs.{Spelled.SentSpelled, Step.net_moved}
use Rattle.do_agreement.specs.{Tallies.Tallies, CountsFit.none_closes}
use Rattle.do_agreement.proofs.commits.MoveTallies.{move_tallies, shown_alike}
use Rattle.do_agreement.proofs.{places.StepAsCommits.two_commits, sites.RuleEffects.rule_effect}
use Rattle.do_agreement.proofs.commits.Moving.{Commits, shown_but}

-- the effect of an event's rule is moves
pub rule_moves : (table : List Class) (act : Acting) (S : State) (event : Event) (n : Node)
    (e : Effect) → IsSound (links_of n) → IsRuleOf table act S event n e →
    AreMoves links link_rules n [] e
rule_moves = by_rule links link_rules IsSound link_bridge

-- a node of a state is sound
pub sound_here : (S : State) → LinksAreKept S → (port : ℕ) (n : Node) → node S port ≡ Some n →
    IsSound (links_of n)
sound_here S kept port n here =
    subst (λ found. IsSound (part_seen links found)) here (kept.sound port)

-- and after moves
pub sound_after : (S : State) → LinksAreKept S → (port : ℕ) (n : Node) → node S port ≡ Some n →
    (taken : List (nets.Note Atom)) (e : Effect) → AreMoves links link_rules n taken e →
    IsSound (links_of e.node)
sound_after S kept port n here taken e runs =
    ok_by links link_rules IsSound link_bridge port S n here
    (λ peer q. kept.queues.closed port peer n here q) (sound_here S kept port n here) taken e runs

module _ {table : List Class} {S : State} (kept : LinksAreKept S) {N : Net}
    (tally : Tallies table N S) (port : ℕ) {pl : Place} (there : place_at N port ≡ Some pl)
    (act : Acting) (event : Event) (e : Effect)
    (rule : IsRuleOf table act S event pl.part.own.node e) where
  -- the site
  abbrev p : Part
  p = pl.part

  -- it is there
  site_there : part_at N port ≡ Some p
  site_there = ap (option_map (λ y. y.part)) there

  -- and the machine's node
  node_there : node S port ≡ Some p.own.node
  node_there =
      sym (tally.shows.nodes port) ∙ ap (option_map (λ (r : Part). r.own.node)) site_there

  -- the node is sound
  sound_there : IsSound (links_of p.own.node)
  sound_there = sound_here S kept port p.own.node node_there

  -- the node is sound after the effect
  pub act_sound : IsSound (links_of e.node)
  act_sound =
      sound_after S kept port p.own.node node_there [] e
      (rule_moves table act S event p.own.node e sound_there rule)

  -- a node that acts has the effect
  pub act_commits : Commits table port p.own.node N tally.under_way S none_closes pl e
  act_commits = record {
    fit = tally.counts;
    shows = shown_but port N tally.under_way S tally.shows p site_there;
    there = there;
    is = rule_effect table act S event p.own.node e sound_there
        (tally.counts.owns port p site_there).reached rule;
    shuts = λ m c. absurd (never c);
    others = λ a m ne. refl;
  }
    where
      never : false ≡ true → ⊥
      never c = cc

  module _ (done : Done) (spelled : SentSpelled table (moves p e)) where
    -- a node acts
    pub act_tallies : Tallies table (net_moved port N (handled p done (site_move p.own e))).net
        (moved port S e).state
    act_tallies =
        subst (λ M. Tallies table M (moved port S e).state) (sym (two_commits port p e done N))
        (move_tallies act_commits act_sound spelled)

    -- and shows what the machine's node shows
    pub act_outcome : (net_moved port N (handled p done (site_move p.own e))).outcome
        ≡ (moved port S e).outcome
    act_outcome = shown_alike act_commits act_sound spelled
