-- By a step the part of each node is moved by moves that take what the step takes, or stays.
use Rattle.do_base.specs.declared.events.event.Event.TheVariants as events
use Rattle.std.proofs.Common.{◌≡◌, ◌++◌, ℕ, Bool, List, [], ◌∷◌, refl, sym, ap, append-nil, subst}
use Rattle.std.specs.Prelude.{None, Option, Some, unwrap_or}
use Rattle.do_base.specs.declared.events.event.Event.{Event}
use Rattle.do_class.specs.Class.{Class}
use Rattle.do_machine.specs.declared.{item.Item.Item, node.Node.Node, state.Effect.Effect}
use Rattle.do_machine.specs.{declared.state.State.State, Context.context, Start.start_effect}
use Rattle.do_machine.specs.{State.{node, queue}, ends.TimeOut.time_out, held.Leaving.leaving}
use Rattle.do_machine.specs.run.Run.{Acting, run_effect}
use Rattle.do_facts.specs.{Net.{Note, noted}, Moves.{Rules, Runs}, View.{AreMoves, AreMovesIf}}
use Rattle.do_facts.specs.{View.{View, part_seen, posted}, steps.IsStep.{IsRuleOf, without_oldest}}
use Rattle.do_facts.proofs.{Bridge.Bridge, EffectReaches.ok_still, Runs.{runs_on, stands_by}}
use Rattle.do_facts.proofs.steps.NodeSteps.{Acted, NodeStep, Stands, Took as TakesOne}

-- what the node of a port takes by an event: nothing, or the oldest item of a queue
pub data Took {P A : Type 0} (view : View P A) (S : State) (event : Event) (port : ℕ)
    (taken : List (Note A)) : Type 0 where
  TookNothing : taken ≡ [] → Took view S event port taken
  TookOldest : (from : ℕ) → (item : Item) → (behind : List Item) → event ≡ events.Take port from →
      queue S from port ≡ Some (item ∷ behind) → taken ≡ noted from (view.atoms item) →
      Took view S event port taken

-- one part of the node of a port is moved to another, by moves that take what the event takes
pub record NodeRuns {P A V : Type 0} (view : View P A) (rules : Rules P A V) (S : State)
    (event : Event) (port : ℕ) (p q : P) : Type 0 where
  pub taken : List (Note A)
  pub sent : List (Note A)
  pub took : Took view S event port taken
  pub runs : Runs rules p taken q sent

-- the effect that there is
pub moves_there : {P A V : Type 0} (view : View P A) (rules : Rules P A V) (n : Node)
    (found : Option Effect) (e : Effect) → AreMovesIf view rules n found → found ≡ Some e →
    AreMoves view rules n [] e
moves_there view rules n None e h q = absurd (cc)
moves_there view rules n (Some d) e h q =
    subst (λ x. AreMoves view rules n [] x) (ap (λ x. unwrap_or x d) q) h

module _ {P A V : Type 0} (view : View P A) (rules : Rules P A V) (Ok : P → Type 0)
    (bridge : Bridge view rules Ok) (table : List Class) (act : Acting) (S : State) where
  -- the effect of an event's rule is moves
  pub by_rule : (event : Event) (n : Node) (e : Effect) → Ok (view.part n) →
      IsRuleOf table act S event n e → AreMoves view rules n [] e
  by_rule (events.Start port selector values) n e good rule =
      moves_there view rules n (start_effect table selector values n) e
      (bridge.start table selector values n good) rule
  by_rule (events.Run port) n e good rule =
      moves_there view rules n (run_effect act (context table S n)) e
      (bridge.run act (context table S n) good) rule
  by_rule (events.Close port peer) n e good rule =
      subst (λ d. AreMoves view rules n [] d) (sym rule.1) (bridge.close n peer rule.0 good)
  by_rule (events.Timeout port) n e good rule =
      moves_there view rules n (time_out n) e (bridge.gives_up n good) rule
  by_rule _ n e good rule = absurd rule

  -- an effect, and what the node then leaves
  left_moves : (n : Node) (taken : List (Note A)) (e : Effect) (entry : ℕ → ℕ → Bool) →
      Ok (view.part n) → AreMoves view rules n taken e →
      Runs rules (view.part n) taken (view.part (leaving entry e.node).node)
      (posted view e.sent ++ posted view (leaving entry e.node).sent)
  left_moves n taken e entry good moves =
      let d = leaving entry e.node in
      subst (λ xs. Runs rules (view.part n) xs (view.part d.node)
      (posted view e.sent ++ posted view d.sent)) (append-nil taken)
      (runs_on rules moves (bridge.leave entry e.node
      (subst Ok moves.reaches
      (ok_still view rules Ok bridge moves.moves (view.part n) moves.may good))))

  module _ (ok : (port : ℕ) (n : Node) → node S port ≡ Some n → Ok (view.part n)) (event : Event)
      (port : ℕ) (now : Option Node) where
    -- the part of the node is moved to that of another, which is there now
    moved_by : (n : Node) (taken : List (Note A)) (e : Effect) (entry : ℕ → ℕ → Bool) →
        node S port ≡ Some n → now ≡ Some (leaving entry e.node).node →
        Took view S event port taken → AreMoves view rules n taken e →
        NodeRuns view rules S event port (part_seen view (node S port)) (part_seen view now)
    moved_by n taken e entry here there took moves =
        let sent = posted view e.sent ++ posted view (leaving entry e.node).sent in
        record {
          taken = taken;
          sent = sent;
          took = took;
          runs = subst (λ p. Runs rules p taken (part_seen view now) sent)
              (sym (ap (part_seen view) here))
              (subst (λ q. Runs rules (view.part n) taken q sent)
              (sym (ap (part_seen view) there))
              (left_moves n taken e entry (ok port n here) moves));
        }

    -- the part of the node of a port after an event
    pub by_node : NodeStep table act S event port now →
        NodeRuns view rules S event port (part_seen view (node S port)) (part_seen view now)
    by_node (Stands same) = record {
      taken = [];
      sent = [];
      took = TookNothing refl;
      runs = stands_by rules (ap (part_seen view) (sym same)) refl;
    }
    by_node (Acted n e entry own here rule there) =
        moved_by n [] e entry here there (TookNothing refl)
        (by_rule event n e (ok port n here) rule)
    by_node (TakesOne from n item behind e entry is here waits rule there) =
        moved_by n (noted from (view.atoms item)) e entry here there
        (TookOldest from item behind is waits refl)
        (subst (λ x. AreMoves view rules n (noted from (view.atoms item)) x) (sym rule.1)
        (bridge.take (context table (without_oldest S from port behind) n) from item rule.0
        (ok port n here)))
