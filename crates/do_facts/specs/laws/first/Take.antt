-- What an item that is taken does, as it was before a call could be given up.
use Rattle.do_base.specs.declared.events.shown.Shown.TheVariants as shows
use Rattle.do_machine.specs.declared.item.Item.TheVariants as items
use Rattle.std.specs.Prelude.{List, ℕ}
use Rattle.do_base.specs.declared.values.value.Value.{Value}
use Rattle.do_behave.specs.declared.invocation.Answer.TheVariants.{Raised}
use Rattle.do_machine.specs.declared.{item.Item.Item, node.Node.Node, state.Effect.Effect}
use Rattle.do_machine.specs.{Context.Context, Effect.{showing, ◌>>=◌}, Items.exported}
use Rattle.do_facts.specs.laws.Version1.{answering_1, closing_1}
use Rattle.do_machine.specs.take.{Awaiting.{AnsweredCall, values_answer}, Lines.item_line}
use Rattle.do_machine.specs.take.{Receipt.received, Take.{arrival, holding, method_call, root_call}}

-- values come as the answer to a call
abbrev pub values_arrival_1 : Context → AnsweredCall → List Value → Node → Effect
values_arrival_1 c k values n = answering_1 k (values_answer c.table values) n

-- what an item comes to: an answer and an end by the rules of version 1, and all others as now
abbrev pub arrival_1 : Context → ℕ → Item → Node → Effect
arrival_1 c from (items.Reply number packet) n =
    received c from packet (values_arrival_1 c (method_call from number)) n
arrival_1 c from (items.Raised number e) n =
    answering_1 (method_call from number) (λ what. Raised e) n
arrival_1 c from (items.RootAnswer number packet) n =
    received c from packet (values_arrival_1 c (root_call from number)) n
arrival_1 c from (items.End serials) n = closing_1 from n
arrival_1 c from item n = arrival c from item n

-- the item is shown, the node holds what it exports, and then it does what it comes to
abbrev pub take_effect_1 : Context → ℕ → Item → Effect
take_effect_1 c from item = do
  n ← showing (shows.Took (item_line from c.node.port item)) c.node
  arrival_1 c from item (holding (exported from c.node.port item) n)
