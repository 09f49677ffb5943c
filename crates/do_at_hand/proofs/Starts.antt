-- A start and a time-out leave a node that names only what is at hand.
use Rattle.do_behave.specs.declared.invocation.Reason.TheVariants as reasons
use Rattle.std.proofs.Common.{◌≡◌, ℕ, Bool, true, not, List, [], ◌∷◌, sym, subst}
use Rattle.std.specs.{Prelude.{None, Option, Some, option_map}, List.AllByRecursion}
use Rattle.do_base.specs.{names.Names.ObjectName, values.Values.objects_of}
use Rattle.do_base.specs.declared.values.value.Value.{Value}
use Rattle.do_class.specs.Class.{Class}
use Rattle.do_sig.specs.Calls.{args_fit}
use Rattle.do_behave.specs.declared.invocation.{Invocation.Invocation, InvState.InvState}
use Rattle.do_behave.specs.declared.invocation.InvState.TheVariants.{Waits}
use Rattle.do_machine.specs.{declared.node.Node.Node, Context.{method_for, own_class}, Effect.only}
use Rattle.do_machine.specs.{Objects.object_at, Start.{is_busy, start_effect}, State.own}
use Rattle.do_machine.specs.ends.TimeOut.{give_up, time_out, time_out_on}
use Rattle.do_machine.specs.run.Fresh.{fresh, pushed}
use Rattle.do_facts.proofs.{Chains.{either, found_or}, EachOfLists.each_weaker}
use Rattle.do_at_hand.{specs.AtHand.is_at_hand, proofs.Shown.{AllPass, Names}}
use Rattle.do_at_hand.proofs.{Within.{AtHand, InvocationWithin, RootWithin, begins}, Runs.GoodIf}

-- a start
pub start_good : (table : List Class) (selector : List ℕ) (values : List Value) (n : Node) →
    AllByRecursion (λ v. objects_of v ≡ []) values → AtHand n →
    GoodIf (start_effect table selector values n)
start_good table selector values n plain ok =
    either Starts (is_busy n) None _ (λ _. tt)
    (λ _. found_or Starts n.root None _ tt
    (λ root is. found_or Starts (method_for table (own_class n root) selector) None _ tt
    (λ m found. either Starts (not (args_fit m.signature values)) None
    (Some (fresh (own n root) m.id reasons.Start values)) (λ _. tt)
    (λ fit. record {
      heap = ok.heap;
      stack = (
        begins H (own n root) m.id reasons.Start values (rooted n.root root is ok.root)
            (each_weaker (λ v. objects_of v ≡ []) (Names H)
            (λ v none. subst (AllPass H) (sym none) tt) values plain),
        ok.stack,
      );
      root = ok.root;
    }))))
  where
    H : ObjectName → Bool
    H = is_at_hand n

    rooted : (r : Option ℕ) (root : ℕ) → r ≡ Some root → RootWithin H n.port r →
        H (own n root) ≡ true
    rooted None root is h = absurd (cc (is))
    rooted (Some s) root is h =
        let same : s ≡ root = cc (is) in
        subst (λ k. H (object_at n.port k) ≡ true) same h

    Starts : Option Invocation → Type 0
    Starts i = GoodIf (option_map (λ i. only (pushed i n)) i)

-- a time-out by the stack
time_out_by : (stack : List Invocation) (n : Node) → AtHand n →
    AllByRecursion (InvocationWithin (is_at_hand n)) stack → GoodIf (time_out_on stack n)
time_out_by [] n ok h = tt
time_out_by (i ∷ below) n ok h = by i.state
  where
    by : (state : InvState) → GoodIf (give_up state i below n)
    by (Waits call peer what) = record {
      heap = ok.heap;
      stack = (record { object = h.0.object; locals = h.0.locals; answer = tt }, h.1);
      root = ok.root;
    }
    by _ = tt

-- a time-out
pub time_out_good : (n : Node) → AtHand n → GoodIf (time_out n)
time_out_good n ok = time_out_by n.stack n ok ok.stack
