-- States whose values a message can carry, wherever they stand.
use Rattle.do_machine.specs.declared.item.Item.TheVariants as items
use Rattle.std.specs.{Prelude.{List, length, ℕ, ◌≡◌, ◌≤◌}, List.AllByRecursion}
use Rattle.do_sched.specs.Good.{IsPort}
use Rattle.do_base.specs.names.Names.{ObjectName}
use Rattle.do_class.specs.{Class.Class, declared.packet.Packet.Packet}
use Rattle.do_frames.specs.Selectors.{IsSelector}
use Rattle.do_behave.specs.declared.invocation.Answer.{Answer, TheVariants.{Given, Raised}}
use Rattle.do_behave.specs.declared.invocation.{Invocation.Invocation, InvState.InvState}
use Rattle.do_behave.specs.declared.invocation.InvState.TheVariants.{Answered}
use Rattle.do_machine.specs.declared.{item.{Item.Item, Message.Message}, node.Node.Node}
use Rattle.do_machine.specs.declared.{node.{Stored.Stored, Wanted.Wanted}, state.Queue.Queue}
use Rattle.do_machine.specs.declared.state.{Station.Station, State.State}
use Rattle.do_limits.specs.Sendable.{AreSendable, HasSlots, IsOfTable, IsSendable, IsSendableExc}
use Rattle.do_limits.specs.Sendable.{IsReadablePacket, IsSendablePacket}

-- the result, the out values or the exception of an answer
abbrev pub AnswerIsSendable : Answer → Type 0
AnswerIsSendable (Given result outs) = IsSendable result × AreSendable outs
AnswerIsSendable (Raised e) = IsSendableExc e

-- the answer that an invocation has, if it has one
abbrev pub HasSendableAnswer : InvState → Type 0
HasSendableAnswer (Answered a) = AnswerIsSendable a
HasSendableAnswer _ = Unit {0}

-- the sixteen locals of an invocation, and its answer
pub record InvocationIsSendable (i : Invocation) : Type 0 where
  pub locals : AreSendable i.locals
  pub sixteen : length i.locals ≡ 16
  pub answer : HasSendableAnswer i.state

-- A message to an object, by its selector, with such a packet
pub record MessageHas (P : Packet → Type 0) (m : Message) : Type 0 where
  pub target : 1 ≤ m.target
  pub selector : IsSelector m.selector
  pub packet : P m.packet

-- the message with such a packet, the exception or the serial of an item
abbrev pub ItemHas : (Packet → Type 0) → Item → Type 0
ItemHas P (items.Call number m) = MessageHas P m
ItemHas P (items.Oneway m) = MessageHas P m
ItemHas P (items.Reply number packet) = P packet
ItemHas P (items.RootAnswer number packet) = P packet
ItemHas P (items.Raised number e) = IsSendableExc e
ItemHas P (items.Ask serial token) = 1 ≤ serial
ItemHas P (items.Granted serial token) = 1 ≤ serial
ItemHas P (items.Gone serial token) = 1 ≤ serial
ItemHas P (items.Left serial) = 1 ≤ serial
ItemHas P _ = Unit {0}

-- a message from one port to another
abbrev pub MessageIsSendable : List Class → ℕ → ℕ → Message → Type 0
MessageIsSendable table from to m = MessageHas (IsSendablePacket table from to) m

-- an item on its way from one port to another
abbrev pub ItemIsSendable : List Class → ℕ → ℕ → Item → Type 0
ItemIsSendable table from to item = ItemHas (IsSendablePacket table from to) item

-- an item that a peer's frame can bring
abbrev pub ItemIsReadable : List Class → ℕ → ℕ → Item → Type 0
ItemIsReadable table from to item = ItemHas (IsReadablePacket table from to) item

-- the serial and the slots of an object, which are those of its class
pub record ObjectIsSendable (table : List Class) (x : Stored) : Type 0 where
  pub serial : 1 ≤ x.serial
  pub slots : AreSendable x.slots
  pub whole : HasSlots table x.class (length x.slots)

-- an object has a serial from 1 on
abbrev pub HasSerial : ObjectName → Type 0
HasSerial o = 1 ≤ o.serial

-- so has an object that is asked for
abbrev pub AsksForOne : Wanted → Type 0
AsksForOne w = HasSerial w.object

-- a node stands at its port, and its next serial and token, and the serials of what it holds and
-- asks for, are from 1 on
abbrev pub HasNumbers : ℕ → Node → Type 0
HasNumbers port n = (n.port ≡ port) × ((1 ≤ n.next_serial) × ((1 ≤ n.next_token)
    × (AllByRecursion HasSerial n.held × AllByRecursion AsksForOne n.asked)))

-- the objects of a node, its invocations and its numbers
pub record NodeIsSendable (table : List Class) (port : ℕ) (n : Node) : Type 0 where
  pub heap : AllByRecursion (ObjectIsSendable table) n.heap
  pub stack : AllByRecursion InvocationIsSendable n.stack
  pub numbers : HasNumbers port n

-- the items of a queue from a port
abbrev pub QueueIsSendable : List Class → ℕ → Queue → Type 0
QueueIsSendable table from q = AllByRecursion (ItemIsSendable table from q.to) q.items

-- the node of a station, what waits in its queues, and the classes of its objects
pub record StationIsSendable (table : List Class) (s : Station) : Type 0 where
  pub port : IsPort s.port
  pub node : NodeIsSendable table s.port s.node
  pub queues : AllByRecursion (QueueIsSendable table s.port) s.queues
  pub classes : AllByRecursion (IsOfTable table) s.classes

-- all values of a state, and all that is on its way
pub record StateIsSendable (table : List Class) (S : State) : Type 0 where
  pub stations : AllByRecursion (StationIsSendable table) S.stations
