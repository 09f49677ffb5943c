-- What holds of each effect that an answer may have holds of the one that it has.
use Rattle.do_base.specs.declared.events.shown.Shown.TheVariants as shows
use Rattle.do_behave.specs.declared.invocation.Reason.TheVariants as reasons
use Rattle.do_machine.specs.declared.item.Item.TheVariants as items
use Rattle.std.{proofs.Common.{◌≡◌, ℕ, true, false, not, List}, specs.Prelude.{None, Option, Some}}
use Rattle.do_base.specs.declared.events.exception.Exc.{Exc, TheVariants.TooLarge}
use Rattle.do_base.specs.declared.values.value.Value.{Value, TheVariants.Text}
use Rattle.do_class.specs.declared.packet.Packet.{Packet}
use Rattle.do_behave.specs.declared.invocation.Answer.{Answer, TheVariants.{Given, Raised}}
use Rattle.do_behave.specs.declared.invocation.{Handler.Handler, Reason.Reason}
use Rattle.do_machine.specs.{declared.state.Effect.Effect, Context.RunContext}
use Rattle.do_machine.specs.{Effect.{only, queueing, showing}, Packing.packed_for, State.is_open}
use Rattle.do_machine.specs.{lend.Lending.posting, run.Answers.{answer_line, answer_placed}}
use Rattle.do_machine.specs.run.{Answers.{exc_name, oneway_answer, replying}, Changes.goes_on}
use Rattle.do_machine.specs.run.Delivery.{below_answered, delivery, failing, popped, with_top}
use Rattle.do_machine.specs.run.Fresh.{with_stack}
use Rattle.do_facts.proofs.Chains.{either, found_or, is_closed, not_closed}

module _ (P : Reason → Effect → Type 0) (r : RunContext) where
  -- What may come of the answer of an invocation that was begun so: the invocation is popped, and
  -- the answer is shown, dropped, given to the invocation below or sent back over an open end. An
  -- exception may also be caught by the invocation
  pub record Delivers : Type 0 where
    pub shown : (a : Answer) → P reasons.Start (showing (answer_line a) (popped r))
    pub below : (a : Answer) →
        P reasons.Local (only (with_stack (below_answered a r.below) r.context.node))
    pub unheard : (peer : ℕ) → P (reasons.Oneway peer) (only (popped r))
    pub told : (peer : ℕ) (e : Exc) →
        P (reasons.Oneway peer) (showing (shows.Raise e) (popped r))
    pub dropped : (peer number : ℕ) → is_open r.context.node peer ≡ false →
        P (reasons.Call peer number) (only (popped r))
    pub raised : (peer number : ℕ) (e : Exc) → is_open r.context.node peer ≡ true →
        P (reasons.Call peer number) (queueing peer (items.Raised number e) (popped r))
    pub replied : (peer number : ℕ) (v : Value) (outs : List Value) (packet : Packet) →
        is_open r.context.node peer ≡ true →
        packed_for r.context peer (answer_placed r v outs) ≡ Some packet →
        P (reasons.Call peer number)
        (posting peer packet (items.Reply number packet) (popped r))
    pub caught : (e : Exc) (h : Handler) →
        P r.top.reason (only (with_top r (goes_on h.into (Text (exc_name e)) h.pc r.top)))

  module _ (may : Delivers) where
    -- an answer that goes back to a peer
    by_replying : (peer number : ℕ) → is_open r.context.node peer ≡ true → (a : Answer) →
        P (reasons.Call peer number) (replying r peer number a (popped r))
    by_replying peer number ends (Raised e) = may.raised peer number e ends
    by_replying peer number ends (Given v outs) =
        found_or (P (reasons.Call peer number))
        (packed_for r.context peer (answer_placed r v outs))
        (queueing peer (items.Raised number TooLarge) (popped r))
        (λ packet. posting peer packet (items.Reply number packet) (popped r))
        (may.raised peer number TooLarge ends)
        (λ packet h. may.replied peer number v outs packet ends h)

    -- an answer that nobody waits for
    by_oneway : (peer : ℕ) (a : Answer) → P (reasons.Oneway peer) (oneway_answer a (popped r))
    by_oneway peer (Given v outs) = may.unheard peer
    by_oneway peer (Raised e) = may.told peer e

    -- an answer, wherever it goes
    pub by_delivery : (a : Answer) (reason : Reason) → P reason (delivery r a reason)
    by_delivery a reasons.Start = may.shown a
    by_delivery a reasons.Local = may.below a
    by_delivery a (reasons.Oneway peer) = by_oneway peer a
    by_delivery a (reasons.Call peer number) =
        either (P (reasons.Call peer number)) (not (is_open r.context.node peer))
        (only (popped r)) (replying r peer number a (popped r))
        (λ c. may.dropped peer number (is_closed (is_open r.context.node peer) c))
        (λ o. by_replying peer number (not_closed (is_open r.context.node peer) o) a)

    -- an exception, caught or not
    pub by_failing : (e : Exc) (handler : Option Handler) → P r.top.reason (failing r e handler)
    by_failing e None = by_delivery (Raised e) r.top.reason
    by_failing e (Some h) = may.caught e h
