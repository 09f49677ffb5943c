-- What is shown of an item that is taken.
use Rattle.do_machine.specs.declared.item.Item.TheVariants as items
use Rattle.do_base.specs.declared.events.shown.Took.TheVariants as tooks
use Rattle.std.specs.Prelude.{ℕ}
use Rattle.do_base.specs.{values.Kinds.number, declared.events.shown.Took.Took}
use Rattle.do_machine.specs.{declared.item.Item.Item, Objects.object_at}

-- an item on its way between two nodes, as it is shown
abbrev pub item_line : ℕ → ℕ → Item → Took
item_line from to (items.Call number m) = tooks.Call m.selector
item_line from to (items.Oneway m) = tooks.Oneway m.selector
item_line from to (items.Reply number packet) = tooks.Reply
item_line from to (items.Raised number e) = tooks.Raised e
item_line from to (items.RootAsk number) = tooks.RootAsk
item_line from to (items.RootAnswer number packet) = tooks.RootAnswer
item_line from to (items.Ask serial token) = tooks.Ask (object_at to serial)
item_line from to (items.Granted serial token) = tooks.Granted (object_at from serial)
item_line from to (items.Gone serial token) = tooks.Gone (object_at from serial)
item_line from to (items.Left serial) = tooks.Left (object_at to serial)
item_line from to (items.Settled number) = tooks.Settled
item_line from to (items.End serials) = tooks.End
