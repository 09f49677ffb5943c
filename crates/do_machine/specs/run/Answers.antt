-- How an answer leaves its node.
use Rattle.do_machine.specs.declared.item.Item.TheVariants as items
use Rattle.do_base.specs.declared.events.shown.Shown.TheVariants as shows
use Rattle.std.specs.{Prelude.{Bool, List, None, Option, Some, [], codes, map, ℕ, ◌∷◌}, List.zip}
use Rattle.do_base.specs.values.Kinds.{number}
use Rattle.do_packet.specs.Copies.{Placed}
use Rattle.do_base.specs.declared.{values.value.Value.Value, events.exception.Exc.Exc}
use Rattle.do_base.specs.declared.events.exception.Exc.TheVariants.{ConnectionDied, Deep}
use Rattle.do_base.specs.declared.events.exception.Exc.TheVariants.{NotUnderstood, NotVended, Range}
use Rattle.do_base.specs.declared.events.exception.Exc.TheVariants.{TimedOut, TooLarge, TypeFault}
use Rattle.do_base.specs.declared.events.{exception.Exc.TheVariants.User, shown.Shown.Shown}
use Rattle.do_class.specs.Table.{signature_of}
use Rattle.do_sig.specs.Calls.{is_returned_copied, qualifiers_of}
use Rattle.do_sig.specs.declared.signature.Signature.{Signature}
use Rattle.do_behave.specs.declared.invocation.Answer.{Answer, TheVariants.{Given, Raised}}
use Rattle.do_machine.specs.declared.{node.Node.Node, state.Effect.Effect}
use Rattle.do_machine.specs.{Chain.{◌>>=◌, ◌otherwise◌}, Effect.{only, queueing, showing}}
use Rattle.do_machine.specs.{Context.RunContext, Packing.packed_for, run.Send.outs_of}
use Rattle.do_machine.specs.lend.Lending.{posting}

-- the name of an exception
abbrev pub exc_name : Exc → List ℕ
exc_name TypeFault = codes "Type"
exc_name Range = codes "Range"
exc_name Deep = codes "Deep"
exc_name NotUnderstood = codes "NotUnderstood"
exc_name ConnectionDied = codes "ConnectionDied"
exc_name NotVended = codes "NotVended"
exc_name TooLarge = codes "TooLarge"
exc_name TimedOut = codes "TimedOut"
exc_name (User text) = text

-- how the answer to a start is shown
abbrev pub answer_line : Answer → Shown
answer_line (Given v outs) = shows.Return v
answer_line (Raised e) = shows.Raise e

-- the answer to a oneway message is dropped, but an exception is shown
abbrev pub oneway_answer : Answer → Node → Effect
oneway_answer (Given v outs) n = only n
oneway_answer (Raised e) n = showing (shows.Raise e) n

-- which values of an answer are copied: the result, and what comes out
abbrev pub answer_marks : Option Signature → List Bool
answer_marks None = []
answer_marks (Some s) = is_returned_copied s ∷ outs_of s (map (λ q. q.copy) (qualifiers_of s))

-- an answer as it is packed
abbrev pub answer_placed : RunContext → Value → List Value → List Placed
answer_placed r v outs =
    zip (answer_marks (signature_of r.context.table r.top.method)) (v ∷ outs)

-- an answer goes back to the peer that waits for it; a result that is too large is an exception
abbrev pub replying : RunContext → ℕ → ℕ → Answer → Node → Effect
replying r peer number (Raised e) n = queueing peer (items.Raised number e) n
replying r peer number (Given v outs) n = do
  packet ← packed_for r.context peer (answer_placed r v outs)
      otherwise queueing peer (items.Raised number TooLarge) n
  posting peer packet (items.Reply number packet) n
