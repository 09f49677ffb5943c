-- Nodes of the counter world, for examples.
use Rattle.do_behave.specs.declared.invocation.Reason.TheVariants as reasons
use Rattle.std.{proofs.Common.{ℕ, [], ◌∷◌, pos}, specs.Prelude.{None, codes}}
use Rattle.do_base.specs.{names.Names.ObjectName, declared.values.value.Value.Value}
use Rattle.do_base.specs.declared.values.value.Value.TheVariants.{Num, Text}
use Rattle.do_class.specs.declared.ids.MethodId.{MethodId}
use Rattle.do_behave.specs.declared.invocation.Invocation.{Invocation}
use Rattle.do_machine.specs.declared.{item.Item.Item, node.Node.Node, state.State.State}
use Rattle.do_machine.specs.{Objects.object_at, State.{change, with_queue}}
use Rattle.do_machine.specs.{World.{opening, opening_node}, run.Fresh.fresh}
use Rattle.do_world.specs.Counter.{counter_classes, counter_nodes}

-- a number
abbrev pub five : Value
five = Num (pos 5)

-- a text of a number's digit
abbrev pub a_text : Value
a_text = Text (codes "5")

-- the root of the client's node
abbrev pub client_object : ObjectName
client_object = object_at 7001 1

-- the root of the counter's node
abbrev pub counter_object : ObjectName
counter_object = object_at 7002 1

-- the counter world at its opening
abbrev pub at_first : State
at_first = opening counter_classes counter_nodes

-- the client's node as it opens
abbrev pub client : Node
client = opening_node counter_classes (7001 ∷ 7002 ∷ [])
    (record { node = 7001; root = record { 0 = 1 } })

-- the counter's node as it opens
abbrev pub counter : Node
counter = opening_node counter_classes (7001 ∷ 7002 ∷ [])
    (record { node = 7002; root = record { 0 = 0 } })

-- the client's node, which holds the counter
abbrev pub holder : Node
holder = record client { held = counter_object ∷ [] }

-- a node with its ends closed
abbrev pub closed : Node → Node
closed n = record n { open_to = [] }

-- a node that has no root
abbrev pub rootless : Node → Node
rootless n = record n { root = None }

-- a state in which the node of a port is another
abbrev pub with_node : ℕ → Node → State → State
with_node port n S = change port (λ s. record s { node = n }) S

-- the counter world with one item under way
abbrev pub under_way : ℕ → ℕ → Item → State
under_way from to item = change from (with_queue to (item ∷ [])) at_first

-- the counter's method
abbrev pub add_method : MethodId
add_method = record { class = record { 0 = 0 }; index = 0 }

-- the client's method, which begins with a value
abbrev pub going : Value → Invocation
going value =
    fresh client_object (record { class = record { 0 = 1 }; index = 0 }) reasons.Start (value ∷ [])
