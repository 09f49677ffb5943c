-- What is sent is what a frame can bring.
use Rattle.do_machine.specs.declared.item.Item.TheVariants as items
use Rattle.std.specs.Prelude.{List, ℕ}
use Rattle.do_class.specs.Class.{Class}
use Rattle.do_machine.specs.declared.item.{Item.Item, Message.Message}
use Rattle.do_limits.specs.SendableStates.{ItemIsReadable, ItemIsSendable, MessageHas}
use Rattle.do_limits.specs.{SendableStates.MessageIsSendable, Sendable.IsReadablePacket}

module _ (table : List Class) (from to : ℕ) where
  -- a message
  message_is : (m : Message) → MessageIsSendable table from to m →
      MessageHas (IsReadablePacket table from to) m
  message_is m h = record { target = h.target; selector = h.selector; packet = h.packet.read }

  -- an item
  pub sent_is_readable : (item : Item) → ItemIsSendable table from to item →
      ItemIsReadable table from to item
  sent_is_readable (items.Call number m) h = message_is m h
  sent_is_readable (items.Oneway m) h = message_is m h
  sent_is_readable (items.Reply number packet) h = h.read
  sent_is_readable (items.RootAnswer number packet) h = h.read
  sent_is_readable (items.Raised number e) h = h
  sent_is_readable (items.Ask serial token) h = h
  sent_is_readable (items.Granted serial token) h = h
  sent_is_readable (items.Gone serial token) h = h
  sent_is_readable (items.Left serial) h = h
  sent_is_readable (items.RootAsk number) h = h
  sent_is_readable (items.Settled number) h = h
  sent_is_readable (items.End serials) h = h
