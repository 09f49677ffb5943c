-- What holds of each effect that a run, a start or a time-out may have, where it has one.
use Rattle.std.proofs.Common.{◌≡◌, ℕ, List, [], ◌∷◌, ap, subst}
use Rattle.std.specs.Prelude.{None, Option, Some, option_map, unwrap_or}
use Rattle.do_base.specs.{declared.values.value.Value.Value, names.Names.CallName}
use Rattle.do_class.specs.Class.{Class}
use Rattle.do_behave.specs.declared.invocation.{Invocation.Invocation, InvState.InvState}
use Rattle.do_behave.specs.declared.invocation.{InvState.TheVariants.Waits, Waited.Waited}
use Rattle.do_machine.specs.declared.{node.Node.Node, state.Effect.Effect, verdict.Verdict.Verdict}
use Rattle.do_machine.specs.{Context.{Context, RunContext}, Effect.only}
use Rattle.do_machine.specs.Start.{begun, start_effect}
use Rattle.do_machine.specs.{ends.TimeOut.{give_up, time_out, time_out_on}, run.Fresh.pushed}
use Rattle.do_machine.specs.run.{Run.{Acting, run_effect, run_on, state_rule}, Verdicts.effect_of}

module _ (P : Effect → Type 0) where
  -- it holds of the effect, where there is one
  abbrev pub IfAny : Option Effect → Type 0
  IfAny None = Unit {0}
  IfAny (Some e) = P e

  -- so it does of the effect that there is
  pub there : (found : Option Effect) (e : Effect) → IfAny found → found ≡ Some e → P e
  there None e h q = absurd (cc)
  there (Some d) e h q = subst P (ap (λ x. unwrap_or x d) q) h

  -- by the verdict, if there is one
  by_verdict : (r : RunContext) → ((v : Verdict) → P (effect_of r v)) → (v : Option Verdict) →
      IfAny (option_map (effect_of r) v)
  by_verdict r each None = tt
  by_verdict r each (Some v) = each v

  -- a run, where it holds of each verdict
  pub by_verdicts : (act : Acting) (c : Context) →
      ((top : Invocation) (below : List Invocation) (v : Verdict) →
      P (effect_of (record { context = c; top = top; below = below }) v)) →
      IfAny (run_effect act c)
  by_verdicts act c each = on c.node.stack
    where
      on : (stack : List Invocation) → IfAny (run_on act c stack)
      on [] = tt
      on (i ∷ is) =
          let r : RunContext = record { context = c; top = i; below = is } in
          by_verdict r (each i is) (state_rule act r i.state)

  -- a start, where it holds of each invocation that begins
  pub by_begins : (table : List Class) (selector : List ℕ) (values : List Value) (n : Node) →
      ((i : Invocation) → P (only (pushed i n))) → IfAny (start_effect table selector values n)
  by_begins table selector values n each = go (begun table selector values n)
    where
      go : (found : Option Invocation) → IfAny (option_map (λ i. only (pushed i n)) found)
      go None = tt
      go (Some i) = each i

  -- a time-out, where it holds of each call that is given up
  pub by_giving_up : (n : Node) →
      ((call : CallName) (peer : ℕ) (what : Waited) (i : Invocation) (below : List Invocation) →
      IfAny (give_up (Waits call peer what) i below n)) → IfAny (time_out n)
  by_giving_up n each = on n.stack
    where
      by_state : (state : InvState) (i : Invocation) (below : List Invocation) →
          IfAny (give_up state i below n)
      by_state (Waits call peer what) i below = each call peer what i below
      by_state _ i below = tt

      on : (stack : List Invocation) → IfAny (time_out_on stack n)
      on [] = tt
      on (i ∷ below) = by_state i.state i below
