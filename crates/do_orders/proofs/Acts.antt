-- An enabled event by which a node acts is the act that its rule gives.
use Rattle.do_base.specs.declared.events.event.Event.TheVariants as events
use Rattle.std.proofs.Common.{◌≡◌, ℕ, Bool, true, false, cond, refl, sym, ap, ◌∙◌, subst}
use Rattle.std.specs.Prelude.{None, Some}
use Rattle.do_base.specs.declared.events.event.Event.{Event}
use Rattle.do_machine.specs.{Commit.moved, State.node, Step.step, declared.node.Node.Node}
use Rattle.do_machine.specs.declared.state.{Effect.Effect, State.State, Stepped.Stepped}
use Rattle.do_weave.specs.{Inputs.tried_step, Rules.Rules}
use Rattle.do_facts.{proofs.steps.EachIsStep.step_is, specs.steps.IsStep.{Acts, Checks, IsActOf}}
use Rattle.do_facts.specs.steps.IsStep.{IsRuleOf, IsStep, Loses, Skips, Takes}

-- what is chosen by a test, which passes
pub chosen : {X : Type 0} (b : Bool) (x y : X) → cond b (Some x) None ≡ Some y →
    (b ≡ true) × (x ≡ y)
chosen true x y e = (refl, cc)
chosen false x y e = absurd (cc)

-- the node by which an event acts is one
one_actor : (event : Event) (p q : ℕ) → IsActOf p event → IsActOf q event → q ≡ p
one_actor (events.Take actor from) p q a b = absurd a
one_actor (events.Lose from to after) p q a b = absurd a
one_actor events.Check p q a b = absurd a
one_actor _ p q a b = sym b ∙ a

module _ (R : Rules) (S : State) (p : ℕ) where
  -- An act of the node, by the rule of its event
  pub record Acted (event : Event) (a : Stepped) : Type 0 where
    pub doer : Node
    pub effect : Effect
    pub here : node S p ≡ Some doer
    pub rule : IsRuleOf R.table R.act S event doer effect
    pub comes : a ≡ moved p S effect

  -- an enabled event by which the node acts is such an act
  pub acted : (event : Event) (a : Stepped) → IsActOf p event → tried_step R S event ≡ Some a →
      Acted event a
  acted event a own e =
      let s = step R.table R.act S event in
      let was = chosen s.outcome.enabled s a e in
      by_form (sym (ap (λ (x : Stepped). x.outcome.enabled) was.1) ∙ was.0)
      (subst (IsStep R.table R.act S event) was.1 (step_is S R.table R.act event))
    where
      by_form : a.outcome.enabled ≡ true → IsStep R.table R.act S event a → Acted event a
      by_form on (Skips k) = absurd (cc (ap (λ (x : Stepped). x.outcome.enabled) k))
      by_form on (Acts port n d actor here rule k) =
          let same : port ≡ p = one_actor event p port own actor in record {
            doer = n;
            effect = d;
            here = ap (node S) (sym same) ∙ here;
            rule = rule;
            comes = k ∙ ap (λ z. moved z S d) same;
          }
      by_form on (Takes port from n item rest d is here rule waits k) =
          absurd (subst (IsActOf p) is own)
      by_form on (Loses from to after w is waits few k) = absurd (subst (IsActOf p) is own)
      by_form on (Checks is k) = absurd (subst (IsActOf p) is own)
