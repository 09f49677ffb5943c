-- What one step of a node does.
use Rattle.std.specs.Prelude.{List, [], ℕ, ◌++◌, ◌∷◌}
use Rattle.do_base.specs.declared.events.shown.Shown.{Shown}
use Rattle.do_machine.specs.declared.{item.Item.Item, node.Node.Node, state.Effect.Effect}

-- the node alone changes
abbrev pub only : Node → Effect
only n = record { node = n; sent = []; shown = [] }

-- the node changes, and one item is queued to a peer
abbrev pub queueing : ℕ → Item → Node → Effect
queueing peer item n =
    record { node = n; sent = record { to = peer; item = item } ∷ []; shown = [] }

-- the node changes, and one thing is shown
abbrev pub showing : Shown → Node → Effect
showing s n = record { node = n; sent = []; shown = s ∷ [] }

-- an effect, and behind it what another does
abbrev followed_by : Effect → Effect → Effect
followed_by e d = record { node = d.node; sent = e.sent ++ d.sent; shown = e.shown ++ d.shown }

infixl 1 ◌>>=◌
-- an effect, and then the next one on the node that it leaves
abbrev pub ◌>>=◌ : Effect → (Node → Effect) → Effect
e >>= next = followed_by e (next e.node)

-- an effect for each element of a list, one after another
abbrev pub each : {X : Type 0} → (X → Node → Effect) → List X → Node → Effect
each f [] n = only n
each f (x ∷ xs) n = f x n >>= each f xs
