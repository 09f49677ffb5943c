-- What an item that is taken does to the node that takes it.
use Rattle.do_machine.specs.declared.item.Item.TheVariants as items
use Rattle.do_behave.specs.declared.invocation.Reason.TheVariants as reasons
use Rattle.do_base.specs.declared.events.shown.Shown.TheVariants as shows
use Rattle.std.specs.Prelude.{Bool, List, [], false, fold, true, ℕ, ◌&&◌, ◌∷◌}
use Rattle.do_base.specs.{names.Names.ObjectName, values.Kinds.number}
use Rattle.do_packet.specs.{Copies.{Placed, names_with}, Packing.packet_with}
use Rattle.do_base.specs.declared.values.value.Value.{Value}
use Rattle.do_class.specs.declared.packet.Packet.{Packet}
use Rattle.do_behave.specs.declared.invocation.{Invocation.Invocation, InvState.InvState}
use Rattle.do_behave.specs.declared.invocation.Answer.TheVariants.{Raised}
use Rattle.do_behave.specs.declared.invocation.InvState.TheVariants.{Waits}
use Rattle.do_machine.specs.declared.{item.Item.Item, node.Node.Node, state.Effect.Effect}
use Rattle.do_machine.specs.{Effect.{only, queueing, showing, ◌>>=◌}, Context.Context}
use Rattle.do_machine.specs.{Items.exported, Objects.{joined, object_at}, Packing.packer}
use Rattle.do_machine.specs.{State.is_open, take.Awaiting.{AnsweredCall, answering, values_answer}}
use Rattle.do_machine.specs.take.{Lines.item_line, Receipt.received, Requests.request}
use Rattle.do_machine.specs.{ends.Closing.closing, run.Acts.root_value}
use Rattle.do_machine.specs.lend.{Asking.{ask_over, granting, wanted}, Lending.with_settled}

-- an invocation of this state waits for an answer
abbrev pub is_waiting : InvState → Bool
is_waiting (Waits call peer what) = true
is_waiting _ = false

-- a node serves its peers while it has no invocation, or the top one waits
abbrev pub can_serve : List Invocation → Bool
can_serve [] = true
can_serve (i ∷ below) = is_waiting i.state

-- the end towards the peer is open, and the node can serve
abbrev pub can_take : ℕ → Node → Bool
can_take peer n = is_open n peer && can_serve n.stack

-- a root as a message, which is within the limits
abbrev pub root_packet : Context → ℕ → Packet
root_packet c to =
    let values : List Placed = (false, root_value c.node) ∷ [] in
    packet_with (packer c) to c.node.next_token values [] (names_with (packer c) values [])

-- the call of a method that a peer answers under a number
abbrev pub method_call : ℕ → ℕ → AnsweredCall
method_call peer number = record { peer = peer; number = number; root = false }

-- the call for its root that a peer answers under a number
abbrev pub root_call : ℕ → ℕ → AnsweredCall
root_call peer number = record { peer = peer; number = number; root = true }

-- values come as the answer to a call
abbrev pub values_arrival : Context → AnsweredCall → List Value → Node → Effect
values_arrival c k values n = answering k (values_answer c.table values) n

-- what an item comes to at the node that takes it
abbrev pub arrival : Context → ℕ → Item → Node → Effect
arrival c from (items.Call number m) n =
    received c from m.packet (request c from (reasons.Call from number) m) n
arrival c from (items.Oneway m) n =
    received c from m.packet (request c from (reasons.Oneway from) m) n
arrival c from (items.Reply number packet) n =
    received c from packet (values_arrival c (method_call from number)) n
arrival c from (items.Raised number e) n =
    answering (method_call from number) (λ what. Raised e) n
arrival c from (items.RootAsk number) n =
    queueing from (items.RootAnswer number (root_packet c from)) n
arrival c from (items.RootAnswer number packet) n =
    received c from packet (values_arrival c (root_call from number)) n
arrival c from (items.Ask serial token) n = granting from serial token n
arrival c from (items.Granted serial token) n =
    ask_over (wanted (object_at from serial) token.lender token.number) n
arrival c from (items.Gone serial token) n =
    ask_over (wanted (object_at from serial) token.lender token.number) n
arrival c from (items.Left serial) n = only n
arrival c from (items.Settled number) n = only (with_settled from number n)
arrival c from (items.End serials) n = closing from n

-- the node holds what an item exports to it
abbrev pub holding : List ObjectName → Node → Node
holding os n = record n { held = fold joined n.held os }

-- the item is shown, the node holds what it exports, and then it does what it comes to
abbrev pub take_effect : Context → ℕ → Item → Effect
take_effect c from item = do
  n ← showing (shows.Took (item_line from c.node.port item)) c.node
  arrival c from item (holding (exported from c.node.port item) n)
