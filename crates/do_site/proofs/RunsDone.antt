-- What a run does, by what its top invocation goes on with.
use Rattle.do_site.specs.declared.work.running.Next.TheVariants as nexts
use Rattle.std.proofs.Common.{◌≡◌, List, [], ◌∷◌, None, Some, refl, ap, sym, subst, ◌∙◌}
use Rattle.std.specs.Prelude.{option_map}
use Rattle.do_class.specs.Class.{Class}
use Rattle.do_behave.specs.declared.invocation.Answer.{Answer, TheVariants.{Given, Raised}}
use Rattle.do_behave.specs.declared.invocation.{Invocation.Invocation, InvState.InvState}
use Rattle.do_behave.specs.declared.invocation.InvState.TheVariants.{Answered, Below, Running}
use Rattle.do_behave.specs.declared.invocation.InvState.TheVariants.{Waits}
use Rattle.do_machine.specs.{Context.{Context, RunContext}, run.Acts.act_rule}
use Rattle.do_machine.specs.run.Run.{Acting, answer_rule, next_act, run_effect, run_on, state_rule}
use Rattle.do_machine.specs.run.Verdicts.{effect_of}
use Rattle.do_network.specs.Own.{Own, site_context}
use Rattle.do_effects.specs.Plans.{IsRunning}
use Rattle.do_site.specs.Running.{IsRunOf, next_of}

-- where nothing goes on no run is enabled
pub nothing_runs : (act : Acting) (c : Context) (stack : List Invocation) →
    next_of stack ≡ nexts.Nothing → run_on act c stack ≡ None
nothing_runs act c [] e = refl
nothing_runs act c (top ∷ below) e = in_state top.state e
  where
    in_state : (s : InvState) → next_of (record top { state = s } ∷ below) ≡ nexts.Nothing →
        option_map (effect_of (record { context = c; top = top; below = below }))
        (state_rule act (record { context = c; top = top; below = below }) s) ≡ None
    in_state Running e = cc
    in_state Below e = refl
    in_state (Answered (Given v outs)) e = cc
    in_state (Answered (Raised exc)) e = cc
    in_state (Waits call peer what) e = refl

-- what goes on with an act runs
pub act_runs : (stack : List Invocation) → next_of stack ≡ nexts.Act → IsRunning stack
act_runs [] e = cc
act_runs (top ∷ below) e = in_state top.state e
  where
    in_state : (s : InvState) → next_of (record top { state = s } ∷ below) ≡ nexts.Act →
        s ≡ Running
    in_state Running e = refl
    in_state Below e = cc
    in_state (Answered (Given v outs)) e = cc
    in_state (Answered (Raised exc)) e = cc
    in_state (Waits call peer what) e = cc

module _ (act : Acting) (table : List Class) (p : Own) (r : RunContext)
    (run : IsRunOf table p r) where
  -- a run is that of its top invocation, in its state
  state_runs : (s : InvState) → r.top.state ≡ s →
      run_effect act (site_context table p) ≡ option_map (effect_of r) (state_rule act r s)
  state_runs s is =
      ap (run_on act (site_context table p)) run.stack
      ∙ (λ j. let q : RunContext
      = record { context = sym run.context j; top = r.top; below = r.below } in
      option_map (effect_of q) (state_rule act q (is j)))

  -- one that runs does its next act
  pub run_acts : IsRunning p.node.stack →
      run_effect act (site_context table p) ≡ Some (effect_of r (act_rule r (next_act act r)))
  run_acts runs = state_runs Running (subst IsRunning run.stack runs)

  -- one that got an answer uses it
  pub run_answers : (a : Answer) → r.top.state ≡ Answered a →
      run_effect act (site_context table p) ≡ Some (effect_of r (answer_rule a))
  run_answers a is = state_runs (Answered a) is
