-- Where a node has an effect by an event's rule, the step is the move by this effect.
use Rattle.do_base.specs.declared.events.event.Event.TheVariants as events
use Rattle.std.proofs.Common.{◌≡◌, ◌∙◌, ℕ, true, cond, not, List, ap, sym}
use Rattle.std.specs.Prelude.{None, Option, Some, option_and_then, unwrap_or}
use Rattle.do_base.specs.declared.events.event.Event.{Event}
use Rattle.do_class.specs.Class.{Class}
use Rattle.do_machine.specs.declared.{node.Node.Node, state.{Effect.Effect, State.State}}
use Rattle.do_machine.specs.{declared.state.Stepped.Stepped, Commit.{moved, skipped}}
use Rattle.do_machine.specs.{Context.context, Start.start_effect, State.{is_open, node}}
use Rattle.do_machine.specs.{Step.{close, moved_by, step}, ends.{Closing.closing, TimeOut.time_out}}
use Rattle.do_machine.specs.run.Run.{Acting, run_effect}
use Rattle.do_facts.specs.steps.IsStep.{IsActOf, IsRuleOf}

module _ (table : List Class) (act : Acting) (S : State) where
  -- an event by which a node has an effect, if any
  of_effect : (actor port : ℕ) (n : Node) (e : Effect) (f : Node → Option Effect) →
      actor ≡ port → node S port ≡ Some n → f n ≡ Some e →
      unwrap_or (moved_by actor S (option_and_then f (node S actor))) (skipped S)
      ≡ moved port S e
  of_effect actor port n e f own here rule =
      ap (λ p. unwrap_or (moved_by p S (option_and_then f (node S p))) (skipped S)) own
      ∙ ap (λ found. unwrap_or (moved_by port S (option_and_then f found)) (skipped S)) here
      ∙ ap (λ d. unwrap_or (moved_by port S d) (skipped S)) rule

  -- a close
  of_close : (actor port peer : ℕ) (n : Node) (e : Effect) → actor ≡ port →
      node S port ≡ Some n → (is_open n peer ≡ true) × (e ≡ closing peer n) →
      unwrap_or (close S actor peer) (skipped S) ≡ moved port S e
  of_close actor port peer n e own here rule =
      ap (λ p. unwrap_or (close S p peer) (skipped S)) own
      ∙ ap (λ found. unwrap_or (closes found) (skipped S)) here
      ∙ ap (λ b. unwrap_or (cond (not b) None (Some (moved port S (closing peer n)))) (skipped S))
      rule.0
      ∙ ap (moved port S) (sym rule.1)
    where
      closes : Option Node → Option Stepped
      closes None = None
      closes (Some m) = cond (not (is_open m peer)) None (Some (moved port S (closing peer m)))

  -- where a node has an effect by the event's rule, the step is the move by this effect
  pub rule_moves : (event : Event) (port : ℕ) (n : Node) (e : Effect) → IsActOf port event →
      node S port ≡ Some n → IsRuleOf table act S event n e →
      step table act S event ≡ moved port S e
  rule_moves (events.Start actor selector values) port n e own here rule =
      of_effect actor port n e (start_effect table selector values) own here rule
  rule_moves (events.Run actor) port n e own here rule =
      of_effect actor port n e (λ m. run_effect act (context table S m)) own here rule
  rule_moves (events.Close actor peer) port n e own here rule =
      of_close actor port peer n e own here rule
  rule_moves (events.Timeout actor) port n e own here rule =
      of_effect actor port n e time_out own here rule
  rule_moves _ port n e own here rule = absurd own
