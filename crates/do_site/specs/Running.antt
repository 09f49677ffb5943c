-- What a run of a site goes on with, and what an answer is that was not used yet.
use Rattle.do_effects.specs.declared.plan.Plan.TheVariants as plans
use Rattle.do_site.specs.declared.work.running.Next.TheVariants as nexts
use Rattle.std.specs.Prelude.{Bool, List, None, Option, Some, [], false, true, ◌≡◌, ◌∷◌}
use Rattle.do_base.specs.declared.events.exception.Exc.{Exc}
use Rattle.do_class.specs.Class.{Class}
use Rattle.do_behave.specs.declared.{act.Act.{Act, TheVariants.Step}, invocation.Answer.Answer}
use Rattle.do_behave.specs.declared.invocation.Answer.TheVariants.{Given, Raised}
use Rattle.do_behave.specs.declared.invocation.{Invocation.Invocation, InvState.InvState}
use Rattle.do_behave.specs.declared.invocation.InvState.TheVariants.{Answered, Running}
use Rattle.do_machine.specs.{Context.RunContext, run.{Run.answer_rule, Verdicts.effect_of}}
use Rattle.do_network.specs.Own.{Own, site_context}
use Rattle.do_effects.specs.{Plans.plan_effect, declared.{changing.Core.Core, plan.Plan.Plan}}
use Rattle.do_site.specs.{Steps.Moves, declared.work.running.Next.Next}

-- what an invocation goes on with that got this answer
abbrev pub next_by : Answer → Next
next_by (Given value outs) = nexts.Given
next_by (Raised exc) = nexts.Raised

-- what an invocation of this state goes on with
abbrev pub next_in : InvState → Next
next_in Running = nexts.Act
next_in (Answered a) = next_by a
next_in _ = nexts.Nothing

-- the exception that an answer is
abbrev pub raised_by : Answer → Option Exc
raised_by (Given value outs) = None
raised_by (Raised exc) = Some exc

-- the exception that an invocation of this state got
abbrev pub raised_in : InvState → Option Exc
raised_in (Answered a) = raised_by a
raised_in _ = None

-- what the top invocation goes on with
abbrev pub next_of : List Invocation → Next
next_of [] = nexts.Nothing
next_of (top ∷ below) = next_in top.state

-- an act is a step: it sets locals and the handler and writes slots, and no more
abbrev pub is_step : Act → Bool
is_step (Step pc locals handler writes) = true
is_step _ = false

-- the run of the top invocation, by what its site is judged by
pub record IsRunOf (table : List Class) (p : Own) (r : RunContext) : Type 0 where
  pub context : r.context ≡ site_context table p
  pub stack : p.node.stack ≡ r.top ∷ r.below

-- a plan does what the rules say of the answer that the top invocation got
abbrev pub PlansAnswer : List Class → Own → Plan → Type 0
PlansAnswer table p plan = (r : RunContext) → (a : Answer) → IsRunOf table p r →
    r.top.state ≡ Answered a → plan_effect r plan ≡ effect_of r (answer_rule a)

-- the top invocation used the answer that it got
abbrev pub AnswerUsed : List Class → Core → Core → Type 0
AnswerUsed table before after = (r : RunContext) → (a : Answer) →
    IsRunOf table before.part.own r → r.top.state ≡ Answered a →
    Moves before after (effect_of r (answer_rule a))

-- a plan after which nothing is left of the state of the top invocation
abbrev pub IsOver : Plan → Type 0
IsOver (plans.Goes into value pc) = Unit {0}
IsOver (plans.Uses value outs) = Unit {0}
IsOver (plans.Delivers d) = Unit {0}
IsOver _ = ⊥
