-- What a step of a node does, one thing behind another.
use Rattle.do_machine.specs.{declared.{node.Node.Node, state.Effect.Effect}, Effect.◌>>=◌}

-- an effect, and then the next one on the node that it leaves
abbrev pub and_then : Effect → (Node → Effect) → Effect
and_then e next = e >>= next
