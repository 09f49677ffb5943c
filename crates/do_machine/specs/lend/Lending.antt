-- Lends: foreign objects that a node names to third nodes.
use Rattle.std.specs.Prelude.{Bool, List, None, Option, Some, filter, length, not, ℕ, ◌&&◌, ◌++◌}
use Rattle.std.specs.{Prelude.{◌+◌, ◌==◌}, List.filter_map}
use Rattle.do_base.specs.values.Kinds.{number}
use Rattle.do_class.specs.declared.packet.{Packet.Packet, Name.{Name, TheVariants.Lent}}
use Rattle.do_machine.specs.declared.{item.Item.Item, node.{Lend.Lend, Node.Node}}
use Rattle.do_machine.specs.{declared.state.Effect.Effect, Effect.queueing}

-- what a name lends to a borrower
abbrev pub lend_of : ℕ → Name → Option Lend
lend_of borrower (Lent o class token) =
    Some (record { number = token; object = o; borrower = borrower })
lend_of borrower _ = None

-- what a message lends
abbrev pub lends_of : ℕ → Packet → List Lend
lends_of borrower packet = filter_map (lend_of borrower) packet.names

-- the node once it lends, with the tokens used up
abbrev pub lending : List Lend → Node → Node
lending lends n = record n { lent = n.lent ++ lends; next_token = n.next_token + length lends }

-- an item with a message is queued to a peer, and what that names of third nodes is lent
abbrev pub posting : ℕ → Packet → Item → Node → Effect
posting peer packet item n = queueing peer item (lending (lends_of peer packet) n)

-- a lend is that of a number to a borrower
abbrev pub is_lend : ℕ → ℕ → Lend → Bool
is_lend borrower number l = (l.number == number) && (l.borrower == borrower)

-- a lend is over
abbrev pub with_settled : ℕ → ℕ → Node → Node
with_settled borrower number n =
    record n { lent = filter (λ l. not (is_lend borrower number l)) n.lent }
