-- Where no call was given up, an item that is taken does what it does by the rules of version 1.
use Rattle.do_base.specs.declared.events.shown.Shown.TheVariants as shows
use Rattle.do_machine.specs.declared.item.Item.TheVariants as items
use Rattle.std.proofs.Common.{◌≡◌, ℕ, refl, ap}
use Rattle.do_class.specs.declared.packet.Packet.{Packet}
use Rattle.do_machine.specs.{declared.{item.Item.Item, node.Node.Node}, Context.Context}
use Rattle.do_machine.specs.{Effect.{showing, ◌>>=◌}, Items.exported}
use Rattle.do_facts.specs.laws.first.Step.{IsOnTime}
use Rattle.do_facts.specs.laws.first.Take.{arrival_1, take_effect_1, values_arrival_1}
use Rattle.do_machine.specs.take.{Awaiting.{AnsweredCall, values_answer}, Lines.item_line}
use Rattle.do_machine.specs.take.{Receipt.{arrived, received, receiving}, Take.{arrival, holding}}
use Rattle.do_machine.specs.take.Take.{method_call, root_call, take_effect, values_arrival}
use Rattle.do_facts.proofs.machine.Version1.{same_answering, same_closing}
use Rattle.do_facts.proofs.machine.follows.SteadyTakes.{by_receiving}

-- an answer with values
same_values : (c : Context) (from : ℕ) (packet : Packet) (k : AnsweredCall) (n : Node) →
    IsOnTime n →
    received c from packet (values_arrival c k) n ≡ received c from packet (values_arrival_1 c k) n
same_values c from packet k n h =
    let e = receiving c from packet n in
    let answer = values_answer c.table (arrived c from packet).values in
    let late = (by_receiving c from packet n).late refl h in
    ap (λ d. e >>= (λ m. d)) (same_answering k answer e.node late)

-- any item
same_arrival : (c : Context) (from : ℕ) (item : Item) (n : Node) → IsOnTime n →
    arrival c from item n ≡ arrival_1 c from item n
same_arrival c from (items.Reply number packet) n h =
    same_values c from packet (method_call from number) n h
same_arrival c from (items.Raised number e) n h = same_answering (method_call from number) _ n h
same_arrival c from (items.RootAnswer number packet) n h =
    same_values c from packet (root_call from number) n h
same_arrival c from (items.End serials) n h = same_closing from n h
same_arrival c from _ n h = refl

-- a take
pub same_take_effect : (c : Context) (from : ℕ) (item : Item) → IsOnTime c.node →
    take_effect c from item ≡ take_effect_1 c from item
same_take_effect c from item h =
    let shown = showing (shows.Took (item_line from c.node.port item)) c.node in
    ap (λ d. shown >>= (λ m. d))
    (same_arrival c from item (holding (exported from c.node.port item) c.node) h)
