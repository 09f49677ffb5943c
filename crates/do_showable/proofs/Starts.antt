-- A record may have the names of a node after a start and after a time-out.
use Rattle.do_behave.specs.declared.invocation.Reason.TheVariants as reasons
use Rattle.std.proofs.Common.{List, [], not, subst, true, ℕ, ◌∷◌, ◌≡◌}
use Rattle.std.specs.{List.AllByRecursion, Prelude.{None, Option, Some, option_map}}
use Rattle.do_base.specs.declared.values.value.Value.{Value}
use Rattle.do_sig.specs.Calls.{args_fit}
use Rattle.do_class.specs.Class.{Class}
use Rattle.do_behave.specs.declared.invocation.InvState.{InvState, TheVariants.Waits}
use Rattle.do_behave.specs.declared.invocation.Invocation.{Invocation}
use Rattle.do_machine.specs.{Context.{method_for, own_class}, Effect.only, Objects.object_at}
use Rattle.do_machine.specs.{Start.{is_busy, start_effect}, State.own, declared.node.Node.Node}
use Rattle.do_machine.specs.ends.TimeOut.{give_up, time_out, time_out_on}
use Rattle.do_machine.specs.run.Fresh.{fresh, pushed}
use Rattle.do_facts.proofs.{Chains.{either, found_or}, walk.Possible.IfAny}
use Rattle.do_at_hand.proofs.{Shown.AllName, Within.{InvocationWithin, RootWithin, begins}}
use Rattle.do_showable.proofs.{Naming.is_nameable, Nodes.{IsNamed, restacked}}

-- a start, whose values name nothing
pub start_named : (table : List Class) (selector : List ℕ) (values : List Value) (n : Node) →
    AllName is_nameable values → IsNamed n →
    IfAny (λ e. IsNamed e.node) (start_effect table selector values n)
start_named table selector values n plain ok =
    either Starts (is_busy n) None _ (λ _. tt)
    (λ _. found_or Starts n.root None _ tt
    (λ root is. found_or Starts (method_for table (own_class n root) selector) None _ tt
    (λ m found. either Starts (not (args_fit m.signature values)) None
    (Some (fresh (own n root) m.id reasons.Start values)) (λ _. tt)
    (λ fit. restacked n _ ok (
      begins is_nameable (own n root) m.id reasons.Start values (rooted n.root root is ok.roots)
          plain,
      ok.calls,
    )))))
  where
    rooted : (r : Option ℕ) (root : ℕ) → r ≡ Some root → RootWithin is_nameable n.port r →
        is_nameable (own n root) ≡ true
    rooted None root is h = absurd (cc (is))
    rooted (Some s) root is h =
        let same : s ≡ root = cc (is) in
        subst (λ k. is_nameable (object_at n.port k) ≡ true) same h

    Starts : Option Invocation → Type 0
    Starts i = IfAny (λ e. IsNamed e.node) (option_map (λ i. only (pushed i n)) i)

-- a time-out, by the stack
time_out_by : (stack : List Invocation) (n : Node) → IsNamed n →
    AllByRecursion (InvocationWithin is_nameable) stack →
    IfAny (λ e. IsNamed e.node) (time_out_on stack n)
time_out_by [] n ok h = tt
time_out_by (i ∷ below) n ok h = by i.state
  where
    by : (state : InvState) → IfAny (λ e. IsNamed e.node) (give_up state i below n)
    by (Waits call peer what) =
        restacked n _ ok (record { object = h.0.object; locals = h.0.locals; answer = tt }, h.1)
    by _ = tt

-- a time-out
pub time_out_named : (n : Node) → IsNamed n → IfAny (λ e. IsNamed e.node) (time_out n)
time_out_named n ok = time_out_by n.stack n ok ok.calls
