-- A start and a time-out are moves of the node.
use Rattle.do_facts.specs.nodes.Cause as cause
use Rattle.do_behave.specs.declared.invocation.InvState.TheVariants as states
use Rattle.do_behave.specs.declared.invocation.Reason.TheVariants as reasons
use Rattle.do_facts.specs.nodes.Moves as moves
use Rattle.std.proofs.Common.{◌≡◌, ℕ, not, List, [], ◌∷◌, refl}
use Rattle.std.specs.Prelude.{None, Option, Some, option_map}
use Rattle.do_base.specs.declared.values.value.Value.{Value}
use Rattle.do_behave.specs.declared.invocation.{Invocation.Invocation, InvState.InvState}
use Rattle.do_machine.specs.Context.{method_for, own_class}
use Rattle.do_sig.specs.Calls.{args_fit}
use Rattle.do_machine.specs.{Effect.only, Start.{is_busy, start_effect}, State.own}
use Rattle.do_machine.specs.ends.TimeOut.{give_up, time_out, time_out_on}
use Rattle.do_machine.specs.run.Fresh.{fresh, pushed}
use Rattle.do_facts.proofs.Chains.{either, found_or, not_closed}
use Rattle.do_facts.specs.nodes.{Judged.Judge, Moves.Top}
use Rattle.do_facts.proofs.nodes.{Sending.since_itself, Walks.once, RunWalks.IfDoes}

module _ (j : Judge) where
  -- a start
  pub by_start : (selector : List ℕ) (values : List Value) →
      j.cause ≡ cause.Start selector values →
      IfDoes j [] (start_effect j.table selector values j.first)
  by_start selector values why =
      let n = j.first in
      either Starts (is_busy n) None _ (λ _. refl)
      (λ idle. found_or Starts n.root None _ refl
      (λ root _. found_or Starts (method_for j.table (own_class n root) selector) None _ refl
      (λ m found. either Starts (not (args_fit m.signature values)) None
      (Some (fresh (own n root) m.id reasons.Start values)) (λ _. refl)
      (λ fit. once j n (moves.Starts (fresh (own n root) m.id reasons.Start values))
      (record {
        found = m;
        root = root;
        selector = selector;
        values = values;
        cause = why;
        since = since_itself n;
        idle = idle;
        method = found;
        fits = not_closed (args_fit m.signature values) fit;
        begins = refl;
      }) [] refl))))
    where
      Starts : Option Invocation → Type 0
      Starts i = IfDoes j [] (option_map (λ i. only (pushed i j.first)) i)

  -- a time-out by the stack
  by_time_out_on : j.cause ≡ cause.TimeOut → (stack : List Invocation) →
      j.first.stack ≡ stack →
      IfDoes j [] (time_out_on stack j.first)
  by_time_out_on why [] h = refl
  by_time_out_on why (i ∷ below) h = go i.state refl
    where
      go : (state : InvState) → i.state ≡ state → IfDoes j [] (give_up state i below j.first)
      go (states.Waits call peer what) k =
          let t : Top = record { top = i; below = below } in
          once j j.first (moves.TimesOut t call peer what) (h, k, why) [] refl
      go _ k = refl

  -- a time-out
  pub by_time_out : j.cause ≡ cause.TimeOut → IfDoes j [] (time_out j.first)
  by_time_out why = by_time_out_on why j.first.stack refl
