-- Where the answer of an invocation goes, as data, and what that then does.
use Rattle.do_machine.specs.declared.item.Item.TheVariants as items
use Rattle.do_behave.specs.declared.invocation.Reason.TheVariants as reasons
use Rattle.do_base.specs.declared.events.shown.Shown.TheVariants as shows
use Rattle.std.specs.Prelude.{None, Option, Some, if◌then◌else◌, ℕ, ◌≡◌}
use Rattle.do_base.specs.declared.events.exception.Exc.TheVariants.{TooLarge}
use Rattle.do_class.specs.declared.packet.Packet.{Packet}
use Rattle.do_behave.specs.declared.invocation.Answer.{Answer, TheVariants.{Given, Raised}}
use Rattle.do_behave.specs.declared.invocation.Reason.{Reason}
use Rattle.do_machine.specs.{declared.state.Effect.Effect, Context.RunContext}
use Rattle.do_machine.specs.{Effect.{only, queueing, showing}, Packing.packed_for, State.is_open}
use Rattle.do_machine.specs.{lend.Lending.posting, run.Answers.{answer_line, answer_placed}}
use Rattle.do_machine.specs.run.{Delivery.{below_answered, delivery, popped}, Fresh.with_stack}
use Rattle.do_rules.specs.declared.run.delivery.Delivery.{Delivery, TheVariants.{Answers, Drops}}
use Rattle.do_rules.specs.declared.run.delivery.Delivery.TheVariants.{Raises, Replies, Shows}

-- a reply to a peer, by its message: one that is too large is an exception
abbrev pub reply_by : ℕ → ℕ → Option Packet → Delivery
reply_by peer number None = Raises peer number TooLarge
reply_by peer number (Some packet) = Replies peer number packet

-- an answer, to the peer that waits for it
abbrev pub reply_of : RunContext → ℕ → ℕ → Answer → Delivery
reply_of r peer number (Raised e) = Raises peer number e
reply_of r peer number (Given v outs) =
    reply_by peer number (packed_for r.context peer (answer_placed r v outs))

-- the answer to a oneway message is dropped, but an exception is shown
abbrev pub oneway_of : Answer → Delivery
oneway_of (Given v outs) = Drops
oneway_of (Raised e) = Shows (shows.Raise e)

-- where an answer goes, by why its invocation was begun
abbrev pub delivery_of : RunContext → Answer → Reason → Delivery
delivery_of r a reasons.Start = Shows (answer_line a)
delivery_of r a reasons.Local = Answers a
delivery_of r a (reasons.Oneway peer) = oneway_of a
delivery_of r a (reasons.Call peer number) =
    if is_open r.context.node peer then reply_of r peer number a else Drops

-- what a delivery does: the top invocation is popped, and its answer goes there
abbrev pub delivered : RunContext → Delivery → Effect
delivered r (Shows line) = showing line (popped r)
delivered r (Answers a) = only (with_stack (below_answered a r.below) r.context.node)
delivered r (Replies peer number packet) =
    posting peer packet (items.Reply number packet) (popped r)
delivered r (Raises peer number e) = queueing peer (items.Raised number e) (popped r)
delivered r Drops = only (popped r)

-- what the delivery of an answer does is what becomes of the answer
abbrev pub DeliveriesAreMade : Type 0
DeliveriesAreMade = (r : RunContext) (a : Answer) (reason : Reason)
    → delivered r (delivery_of r a reason) ≡ delivery r a reason
