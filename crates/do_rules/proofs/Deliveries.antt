-- What the delivery of an answer does is what becomes of the answer.
use Rattle.do_machine.specs.declared.item.Item.TheVariants as items
use Rattle.do_behave.specs.declared.invocation.Reason.TheVariants as reasons
use Rattle.std.proofs.Common.{◌≡◌, ℕ, Bool, true, false, cond, Option, None, Some, refl}
use Rattle.std.specs.Prelude.{not}
use Rattle.do_class.specs.declared.packet.Packet.{Packet}
use Rattle.do_behave.specs.declared.invocation.Answer.{Answer, TheVariants.{Given, Raised}}
use Rattle.do_behave.specs.declared.invocation.Reason.{Reason}
use Rattle.do_machine.specs.{declared.state.Effect.Effect, Context.RunContext}
use Rattle.do_machine.specs.{Effect.{only, queueing}, Packing.packed_for, State.is_open}
use Rattle.do_machine.specs.{lend.Lending.posting, run.Answers.{answer_placed, replying}}
use Rattle.do_machine.specs.run.Delivery.{delivery, popped}
use Rattle.do_base.specs.declared.events.exception.Exc.TheVariants.{TooLarge}
use Rattle.do_rules.specs.Delivery.{delivered, delivery_of, reply_by, reply_of}
use Rattle.do_rules.specs.declared.run.delivery.Delivery.TheVariants.{Drops}

module _ (r : RunContext) (peer number : ℕ) where
  -- a message goes as a reply, and one that is too large as an exception
  packet_goes : (m : Option Packet) → delivered r (reply_by peer number m)
      ≡ elim m as (λ _. Effect) [
        | None ↦ queueing peer (items.Raised number TooLarge) (popped r)
        | Some packet ↦ posting peer packet (items.Reply number packet) (popped r)
      ]
  packet_goes None = refl
  packet_goes (Some packet) = refl

  -- an answer goes to the peer that waits for it
  reply_goes : (a : Answer) → delivered r (reply_of r peer number a)
      ≡ replying r peer number a (popped r)
  reply_goes (Raised e) = refl
  reply_goes (Given v outs) = packet_goes (packed_for r.context peer (answer_placed r v outs))

  -- where the end towards the peer is open
  call_goes : (a : Answer) (reached : Bool) →
      delivered r (cond reached (reply_of r peer number a) Drops)
      ≡ cond (not reached) (only (popped r)) (replying r peer number a (popped r))
  call_goes a true = reply_goes a
  call_goes a false = refl

-- each answer goes where it is waited for
pub delivery_is : (r : RunContext) (a : Answer) (reason : Reason) →
    delivered r (delivery_of r a reason) ≡ delivery r a reason
delivery_is r a reasons.Start = refl
delivery_is r a reasons.Local = refl
delivery_is r (Given v outs) (reasons.Oneway peer) = refl
delivery_is r (Raised e) (reasons.Oneway peer) = refl
delivery_is r a (reasons.Call peer number) =
    call_goes r peer number a (is_open r.context.node peer)
