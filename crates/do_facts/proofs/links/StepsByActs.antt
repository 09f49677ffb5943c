-- What moves keep while nothing is freed, and what a node keeps when it frees, every step keeps.
use Rattle.std.proofs.Common.{◌≡◌, ℕ, true, List, [], ◌∷◌, refl, sym, ap, ◌∙◌, subst}
use Rattle.std.specs.{Prelude.{Some, unwrap_or}, List.{AllByRecursion, flat_map}}
use Rattle.do_base.specs.declared.events.event.Event.{Event, TheVariants.{Close, Lose, Run, Start}}
use Rattle.do_base.specs.declared.events.{event.Event.TheVariants.Timeout, shown.Shown.Shown}
use Rattle.do_class.specs.Class.{Class}
use Rattle.do_machine.specs.declared.{item.Item.Item, node.Node.Node, state.Effect.Effect}
use Rattle.do_machine.specs.declared.state.{State.State, Stepped.Stepped}
use Rattle.do_machine.specs.{Commit.{commit, moved, then_leaves}, Context.{around, context}}
use Rattle.do_machine.specs.{Start.start_effect, State.{is_open, node, queue}, Step.step}
use Rattle.do_machine.specs.{ends.TimeOut.time_out, held.{Kept.kept, Leaving.{freeing, leaving}}}
use Rattle.do_machine.specs.{run.Run.{Acting, run_effect}, take.Take.take_effect}
use Rattle.do_facts.proofs.machine.follows.{Every.grow_steps, States.{changed, requeued}}
use Rattle.do_facts.specs.{ByEvents.{IsLossOn, IsMoveOf}, Net.{Net, Note, net_after, noted}}
use Rattle.do_facts.specs.Moves.{Happening, Keeps, Lost, Moved, Path, Runs, net_then as after}
use Rattle.do_facts.specs.View.{AreApart, AreMoves, net_of, part_seen, posted}
use Rattle.do_facts.specs.links.Links.{Atom, Links, atoms, links, links_of}
use Rattle.do_facts.specs.links.{LinksAreKept.LinksAreKept, Moves.{Move, link_rules, opens}}
use Rattle.do_facts.specs.{links.Sound.IsSound, steps.IsStep.{Acts, Checks, IsRuleOf, IsStep}}
use Rattle.do_facts.specs.steps.IsStep.{Loses, Skips, Takes, without_oldest}
use Rattle.do_facts.proofs.{EffectReaches.{IsLinked, linked_by, net_by, ok_by}, Nets.net_twice}
use Rattle.do_facts.proofs.{Nets.part_here, NodeRuns.moves_there, Paths.{reaches_by, stays}}
use Rattle.do_facts.proofs.TakeReaches.{here_still, linked_here, linked_still, net_then}
use Rattle.do_facts.proofs.{TakeReaches.{noted_first, wire_here}, links.Acts.act_rules}
use Rattle.do_facts.proofs.links.{Acts.runs_moves, Bridge.link_bridge, ReachedLinks.step_moves}
use Rattle.do_facts.proofs.links.RulesAreMoves.{by_closing, by_dropping, by_run, by_start, by_take}
use Rattle.do_facts.proofs.{links.RulesAreMoves.by_time_out, steps.EachIsStep.step_is}
use Rattle.do_facts.proofs.steps.{NodesAtHome.AllAtHome, OthersStay.move_leaves_own}

-- the effect of an event's rule is moves that free nothing
rule_runs : (table : List Class) (act : Acting) (S : State) (event : Event) (n : Node)
    (e : Effect) → IsSound (links_of n) → IsRuleOf table act S event n e →
    AreMoves links act_rules n [] e
rule_runs table act S (Start port selector values) n e ok rule =
    moves_there links act_rules n (start_effect table selector values n) e
    (by_start table selector values n ok) rule
rule_runs table act S (Run port) n e ok rule =
    moves_there links act_rules n (run_effect act (context table S n)) e
    (by_run act (context table S n) ok) rule
rule_runs table act S (Close port peer) n e ok rule =
    subst (λ d. AreMoves links act_rules n [] d) (sym rule.1) (by_closing peer n rule.0 ok)
rule_runs table act S (Timeout port) n e ok rule =
    moves_there links act_rules n (time_out n) e (by_time_out n ok) rule
rule_runs table act S _ n e ok rule = absurd rule

-- the net once the node of a port freed what it does not keep
abbrev pub freed : State → ℕ → Node → Net Links Atom
freed V port n =
    net_after port (links_of (freeing (kept (around V n).entry n) n).node) [] [] (net_of links V)

-- losses are the same, whatever moves may be made
losses : (from to : ℕ) (hs : List (Happening Atom Move)) (net last : Net Links Atom) →
    AllByRecursion (IsLossOn from to) hs → Path link_rules net hs last → Path act_rules net hs last
losses from to [] net last ways path = path
losses from to (Moved port v ∷ hs) net last ways path = absurd ways.0
losses from to (Lost a b first rest ∷ hs) net last ways path =
    (path.0, losses from to hs (after link_rules net (Lost a b first rest)) last ways.1 path.1)

module _ (F : Net Links Atom → Type 0) (acts : Keeps act_rules F)
    (frees : (V : State) (port : ℕ) (n : Node) → node V port ≡ Some n → n.port ≡ port →
    F (net_of links V) → F (freed V port n)) where
  -- nothing is to stand first where nothing is taken
  moves_keep : (port : ℕ) (net : Net Links Atom) (p q : Links) → net.part port ≡ p →
      (e : Effect) → Runs act_rules p [] q (posted links e.sent) → F net →
      F (net_after port q [] (posted links e.sent) net)
  moves_keep port net p q here e runs f =
      stays act_rules F acts (IsMoveOf port) net (net_after port q [] (posted links e.sent) net)
      (reaches_by act_rules port net [] q (posted links e.sent)
      (subst (λ r. Runs act_rules r [] q (posted links e.sent)) (sym here) runs)
      (λ x h. (net.wire x port, refl))) f

  module _ (port : ℕ) (V : State) (n : Node) (here : node V port ≡ Some n)
      (home : n.port ≡ port) (linked : IsLinked V port n) (ok : IsSound (links_of n)) where
    -- what follows a step
    leaves : (shown : List Shown) → F (net_of links V) →
        F (net_of links (then_leaves port shown n V).state)
    leaves shown f =
        let entry = (around V n).entry in
        let m = (freeing (kept entry n) n).node in
        let d = leaving entry n in
        let before = net_of links V in
        subst F
        (net_twice port before (links_of m) (links_of d.node) [] [] [] (posted links d.sent)
        ∙ sym (net_by links link_rules IsSound link_bridge port V n here linked ok [] d
        (link_bridge.leave entry n ok)))
        (moves_keep port (freed V port n) (links_of m) (links_of d.node)
        (part_here port before.part (links_of m)) d (by_dropping entry n ok)
        (frees V port n here home f))

  module _ (port : ℕ) (V : State) (n : Node) (here : node V port ≡ Some n)
      (linked : IsLinked V port n) (ok : IsSound (links_of n)) (taken : List (Note Atom))
      (e : Effect) (home : e.node.port ≡ port) (runs : AreMoves links act_rules n taken e) where
    -- what follows an effect
    leaves_then : F (net_of links (commit port e V)) → F (net_of links (moved port V e).state)
    leaves_then f =
        let moves = runs_moves runs in
        leaves port (commit port e V) e.node (changed port e n V.stations here) home
        (linked_by links link_rules IsSound link_bridge port V n here linked ok taken e moves)
        (ok_by links link_rules IsSound link_bridge port V n here linked ok taken e moves)
        e.shown f

  module _ (S : State) (all : LinksAreKept S) (at_home : AllAtHome S) (f : F (net_of links S)) where
    -- a node has no end towards itself
    apart : AreApart S
    apart = record {
      ends = λ port n h.
          ap (λ found. opens (part_seen links found) port) (sym h) ∙ all.hold.apart port;
    }

    -- and is sound
    ok : (port : ℕ) (n : Node) → node S port ≡ Some n → IsSound (links_of n)
    ok port n h = subst (λ found. IsSound (part_seen links found)) h (all.sound port)

    -- a node acts
    acted : (port : ℕ) (n : Node) (e : Effect) → node S port ≡ Some n → e.node.port ≡ port →
        AreMoves links act_rules n [] e → F (net_of links (moved port S e).state)
    acted port n e here home runs =
        let linked = linked_here links link_rules IsSound link_bridge S all.queues apart ok port n
        here in
        let sound = ok port n here in
        leaves_then port S n here linked sound [] e home runs
        (subst F
        (sym (net_by links link_rules IsSound link_bridge port S n here linked sound [] e
        (runs_moves runs)))
        (moves_keep port (net_of links S) (links_of n) (links_of e.node)
        (ap (part_seen links) here) e runs f))

    -- a node takes an item
    took : (table : List Class) (port from : ℕ) (n : Node) (item : Item) (rest : List Item) →
        node S port ≡ Some n → is_open n from ≡ true → queue S from port ≡ Some (item ∷ rest) →
        let T = without_oldest S from port rest in
        let e = take_effect (context table T n) from item in
        e.node.port ≡ port → F (net_of links (moved port T e).state)
    took table port from n item rest here ends waits home =
        let T = without_oldest S from port rest in
        let c = context table T n in
        let e = take_effect c from item in
        let sound = ok port n here in
        let runs = by_take c from ends item sound in
        let taken = noted from (atoms item) in
        let sent = posted links e.sent in
        let before = net_of links S in
        let q = links_of e.node in
        leaves_then port T n
        (here_still links link_rules IsSound link_bridge S all.queues apart ok table port from n
        item rest here waits ends)
        (linked_still links link_rules IsSound link_bridge S all.queues apart ok table port from n
        item rest here waits ends)
        sound taken e home runs
        (subst F
        (sym (net_then links link_rules IsSound link_bridge S all.queues apart ok table port from n
        item rest here waits ends))
        (stays act_rules F acts (IsMoveOf port) before (net_after port q taken sent before)
        (reaches_by act_rules port before taken q sent
        (subst (λ p. Runs act_rules p taken q sent) (sym (ap (part_seen links) here)) runs)
        (noted_first port from before (atoms item) (flat_map atoms rest)
        (wire_here links link_rules IsSound link_bridge S all.queues apart ok table port from n
        item rest here waits ends))) f))

    -- a loss
    lost : (table : List Class) (act : Acting) (from to k : ℕ) →
        F (net_of links (step table act S (Lose from to k)).state)
    lost table act from to k =
        let T = (step table act S (Lose from to k)).state in
        let r = step_moves table act S (Lose from to k) all in
        stays act_rules F acts (IsLossOn from to) (net_of links S) (net_of links T)
        (record {
          happenings = r.happenings;
          ways = r.ways;
          path = losses from to r.happenings (net_of links S) (net_of links T) r.ways r.path;
        }) f

    module _ (table : List Class) (act : Acting) (event : Event) where
      -- the state after the event
      abbrev after_event : Stepped
      after_event = step table act S event

      -- a node that moves stays at home
      home_still : (port : ℕ) (n : Node) (d : Effect) (U : State) → node S port ≡ Some n →
          node U port ≡ Some n → after_event ≡ moved port U d → d.node.port ≡ port
      home_still port n d U here there q =
          let r = (grow_steps table act S event).stands port n here in
          sym (ap (λ x. (unwrap_or x n).port)
          (sym r.1 ∙ ap (λ x. node x.state port) q ∙ move_leaves_own port n d U there))
          ∙ r.2.port ∙ at_home.each port n here

      -- a step
      by_form : (s : Stepped) → IsStep table act S event s → after_event ≡ s →
          F (net_of links s.state)
      by_form s (Skips e) q = subst (λ x. F (net_of links x.state)) (sym e) f
      by_form s (Acts port n d own here rule e) q =
          subst (λ x. F (net_of links x.state)) (sym e)
          (acted port n d here (home_still port n d S here here (q ∙ e))
          (rule_runs table act S event n d (ok port n here) rule))
      by_form s (Takes port from n item rest d is here rule waits e) q =
          let T = without_oldest S from port rest in
          let there = requeued from port port rest S.stations ∙ here in
          let home = home_still port n d T here there (q ∙ e) in
          subst (λ x. F (net_of links x.state)) (sym e)
          (subst (λ x. F (net_of links (moved port T x).state)) (sym rule.1)
          (took table port from n item rest here rule.0 waits
          (ap (λ x. x.node.port) (sym rule.1) ∙ home)))
      by_form s (Loses from to k w is waits few e) q =
          subst (λ x. F (net_of links x.state)) (ap (step table act S) (sym is) ∙ q)
          (lost table act from to k)
      by_form s (Checks is e) q = subst (λ x. F (net_of links x.state)) (sym e) f

    -- every event
    pub step_fact : (table : List Class) (act : Acting) (event : Event) →
        F (net_of links (step table act S event).state)
    step_fact table act event =
        by_form table act event (step table act S event) (step_is S table act event) refl
