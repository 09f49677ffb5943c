-- What a step makes of the node of each port.
use Rattle.do_base.specs.declared.events.event.Event.TheVariants as events
use Rattle.do_machine.specs.declared.item.Item.TheVariants as items
use Rattle.std.proofs.Common.{◌≡◌, ◌∙◌, ◌==◌, ℕ, Bool, true, false, List, [], ◌∷◌, ap, refl, subst}
use Rattle.std.{proofs.Common.sym, specs.{Prelude.{Option, Some}, List.insert}}
use Rattle.std.proofs.lemmas.Bool.{eqb-true}
use Rattle.do_base.specs.declared.events.event.Event.{Event}
use Rattle.do_class.specs.Class.{Class}
use Rattle.do_machine.specs.declared.{item.Item.Item, node.Node.Node, state.Effect.Effect}
use Rattle.do_machine.specs.{declared.state.{State.State, Stepped.Stepped}, Commit.{commit, moved}}
use Rattle.do_machine.specs.{Context.around, State.{node, queue}, Step.step, held.Leaving.leaving}
use Rattle.do_machine.specs.run.Run.{Acting}
use Rattle.do_facts.{proofs.machine.follows.States.requeued, specs.steps.IsStep.{Acts, Checks}}
use Rattle.do_facts.specs.steps.IsStep.{IsActOf, IsRuleOf, IsStep, IsTakeOf, Loses, Skips, Takes}
use Rattle.do_facts.{specs.steps.IsStep.without_oldest, proofs.steps.EachIsStep.step_is}
use Rattle.do_facts.proofs.steps.OthersStay.{move_leaves_others, move_leaves_own}

-- The node of a port after an event: it is as it was; or it had the effect of the event's rule, or
-- that of a take of the oldest item of a queue, and left what it then does without
pub data NodeStep (table : List Class) (act : Acting) (S : State) (event : Event) (port : ℕ)
    (now : Option Node) : Type 0 where
  Stands : now ≡ node S port → NodeStep table act S event port now
  Acted : (n : Node) → (e : Effect) → (entry : ℕ → ℕ → Bool) → IsActOf port event →
      node S port ≡ Some n → IsRuleOf table act S event n e →
      now ≡ Some (leaving entry e.node).node → NodeStep table act S event port now
  Took : (from : ℕ) → (n : Node) → (item : Item) → (behind : List Item) → (e : Effect) →
      (entry : ℕ → ℕ → Bool) → event ≡ events.Take port from → node S port ≡ Some n →
      queue S from port ≡ Some (item ∷ behind) →
      IsTakeOf table (without_oldest S from port behind) n from item e →
      now ≡ Some (leaving entry e.node).node → NodeStep table act S event port now

module _ (table : List Class) (act : Acting) (S : State) (event : Event) where
  -- what becomes of the node of a port
  abbrev Becomes : State → ℕ → Type 0
  Becomes T port = NodeStep table act S event port (node T port)

  -- each node, when one moves
  each_node : (actor : ℕ) (e : Effect) (U : State) → ((port : ℕ) → node U port ≡ node S port) →
      Becomes (moved actor U e).state actor → (port : ℕ) → Becomes (moved actor U e).state port
  each_node actor e U same own port = go (port == actor) refl
    where
      go : (b : Bool) → (port == actor) ≡ b → Becomes (moved actor U e).state port
      go true q = subst (Becomes (moved actor U e).state) (sym (eqb-true port actor q)) own
      go false q = Stands (move_leaves_others actor port e U q ∙ same port)

  -- what the node that moves has left
  abbrev entries : ℕ → Effect → State → ℕ → ℕ → Bool
  entries actor e U = (around (commit actor e U) e.node).entry

  -- a form of step
  by_form : (s : Stepped) → IsStep table act S event s → (port : ℕ) → Becomes s.state port
  by_form s (Skips e) port = Stands (ap (λ x. node x.state port) e)
  by_form s (Acts actor n d own here rule e) port =
      subst (λ x. Becomes x.state port) (sym e)
      (each_node actor d S (λ x. refl)
      (Acted n d (entries actor d S) own here rule (move_leaves_own actor n d S here)) port)
  by_form s (Takes actor from n item behind d is here rule waits e) port =
      let U = without_oldest S from actor behind in
      let same : (x : ℕ) → node U x ≡ node S x = λ x. requeued from actor x behind S.stations in
      subst (λ x. Becomes x.state port) (sym e)
      (each_node actor d U same
      (Took from n item behind d (entries actor d U) is here waits rule
      (move_leaves_own actor n d U (same actor ∙ here))) port)
  by_form s (Loses from to k waiting is waits few e) port =
      Stands
      (ap (λ x. node x.state port) e
      ∙ requeued from to port (insert waiting k (items.End [])) S.stations)
  by_form s (Checks is e) port = Stands (ap (λ x. node x.state port) e)

  -- every step
  pub node_step : (port : ℕ) →
      NodeStep table act S event port (node (step table act S event).state port)
  node_step = by_form (step table act S event) (step_is S table act event)
