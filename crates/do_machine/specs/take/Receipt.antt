-- What a node does with the message of an item that it takes.
use Rattle.std.specs.Prelude.{Bool, List, false, length, map, ℕ}
use Rattle.do_packet.specs.{Unpacking.unpacked, declared.receipt.Receipt.Receipt}
use Rattle.do_packet.specs.declared.receipt.Unpacked.{Unpacked}
use Rattle.do_base.specs.declared.values.value.Value.{Value}
use Rattle.do_class.specs.declared.packet.{Packet.Packet, Name.{Name, TheVariants.{Lent, Yours}}}
use Rattle.do_machine.specs.declared.{node.Node.Node, state.Effect.Effect}
use Rattle.do_machine.specs.{Effect.{each, only, ◌>>=◌}, Context.Context, State.is_open}
use Rattle.do_machine.specs.{run.Fresh.with_objects, lend.Asking.{asking, wanted}}

-- how the node reads a message
abbrev pub reading : Context → ℕ → Packet → Receipt
reading c from packet = record {
  from = from;
  to = c.node.port;
  next = c.node.next_serial;
  copies = length packet.copies;
}

-- the peer that sends has an entry of the own object that it names
abbrev pub is_entered : Context → ℕ → Name → Bool
is_entered c from (Yours serial) = c.around.entry from serial
is_entered c from _ = false

-- the node's end towards the home of the third node's object that is named is open
abbrev pub is_reachable : Context → Name → Bool
is_reachable c (Lent o class token) = is_open c.node o.node
is_reachable c _ = false

-- what comes in a message, for the node
abbrev pub arrived : Context → ℕ → Packet → Unpacked
arrived c from packet =
    unpacked (reading c from packet)
    (map (is_entered c from) packet.names) (map (is_reachable c) packet.names) packet

-- a name is received: an object of a third node is asked for
abbrev pub receiving_name : ℕ → Name → Node → Effect
receiving_name from (Lent o class token) n = asking (wanted o from token) n
receiving_name from _ n = only n

-- copies become objects, and names are received in their order
abbrev pub receiving : Context → ℕ → Packet → Node → Effect
receiving c from packet n =
    each (receiving_name from) packet.names (with_objects (arrived c from packet).copies n)

-- a message is received, and then its values come to something
abbrev pub received : Context → ℕ → Packet → (List Value → Node → Effect) → Node → Effect
received c from packet next n = do
  m ← receiving c from packet n
  next (arrived c from packet).values m
