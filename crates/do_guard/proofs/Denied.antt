-- Over every schedule, a denial raises its rule.
use Rattle.std.proofs.Common.{◌≡◌, ◌∙◌, ◌==◌, ℕ, List, false, cond, ap, length, subst}
use Rattle.std.specs.{Prelude.{None, Some, codes}, List.{All, AllByRecursion}, Str.bytes_eq}
use Rattle.do_base.specs.declared.events.event.Event.{Event}
use Rattle.do_class.specs.{Class.Class, Table.selector_of}
use Rattle.do_behave.specs.declared.invocation.{Invocation.Invocation, InvState.TheVariants.Running}
use Rattle.do_native_acts.specs.Places.{selector_in}
use Rattle.do_check.specs.{Rules.verdict_of, declared.rules.{Rule.Rule, Verdict.TheVariants.Deny}}
use Rattle.do_native.specs.{Acts.native_act, declared.native.Native.Native}
use Rattle.do_native.specs.laws.NativeLaws.{native_names_shown}
use Rattle.do_machine.specs.declared.{node.Node.Node, state.{Seat.Seat, State.State}}
use Rattle.do_machine.specs.World.{HasSignatures}
use Rattle.do_objects.specs.{CanAct.{CanAct, KeepsLocals}, Reached.reached}
use Rattle.do_objects.proofs.Able.{reached_able}
use Rattle.do_guard.{specs.Checkers.{RunRaises, RunsChecker}, proofs.Passed.raises}

-- where there are 16 locals, the selector of the method is at hand
selects : (table : List Class) (i : Invocation) (selector : List ℕ) → length i.locals ≡ 16 →
    selector_of table i.method ≡ Some selector → selector_in table i ≡ Some selector
selects table i selector sixteen called =
    ap (λ k. cond (k == 16) (selector_of table i.method) None) sixteen ∙ called

-- each step of a native class gives 16 locals
keeps_locals : (b : Native) (table : List Class) → All HasSignatures table →
    KeepsLocals table (native_act b)
keeps_locals b table signatures = record {
  signatures = signatures;
  steps = λ i slots. (native_names_shown b table i slots).locals;
}

module _ (b : Native) (rules : List Rule) (table : List Class) (seats : List Seat)
    (events : List Event) (port : ℕ) (n : Node) (i : Invocation) (below : List Invocation) where
  -- the state that is reached
  abbrev S : State
  S = reached table (native_act b) seats events

  -- there a run of a denied message raises the text of its rule
  pub raises_reached : (selector text : List ℕ) → All HasSignatures table →
      RunsChecker b rules S port n i below → i.state ≡ Running →
      selector_of table i.method ≡ Some selector → bytes_eq selector (codes "guard:") ≡ false →
      verdict_of rules selector ≡ Some (Deny text) → RunRaises b table S port n i below text
  raises_reached selector text signatures runs running called other denied =
      let able = reached_able table (native_act b) seats events (keeps_locals b table signatures) in
      let can = subst (AllByRecursion (CanAct table)) runs.top (able.each port n runs.node) in
      raises b rules table S port n i below runs selector text running
      (selects table i selector can.0.1 called) other denied
