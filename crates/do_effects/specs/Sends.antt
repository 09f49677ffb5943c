-- What a node does that sends one item, and which items it can send.
use Rattle.std.specs.Prelude.{IsSome, List, None, Option, Some, [], length, option_map, unwrap_or}
use Rattle.std.specs.Prelude.{ℕ, ◌+◌, ◌∷◌, ◌≡◌, ◌≢◌}
use Rattle.do_class.specs.declared.packet.Name.{Name, TheVariants.{Lent, Mine, Yours}}
use Rattle.do_class.specs.declared.packet.Packet.{Packet}
use Rattle.do_export.specs.Counts.{Counts}
use Rattle.do_machine.specs.declared.{item.Item.{Item, TheVariants.Granted}, node.Node.Node}
use Rattle.do_machine.specs.{declared.{node.Stored.Stored, state.Effect.Effect}, Effect.queueing}
use Rattle.do_machine.specs.{State.stored, lend.Lending.posting}
use Rattle.do_network.specs.{Counting.packet_of, Frames.amount_of}

-- an item is queued, and what its message names of third nodes is lent, where it has one
abbrev pub sends_with : Option Packet → ℕ → Item → Node → Effect
sends_with None peer item n = queueing peer item n
sends_with (Some packet) peer item n = posting peer packet item n

-- so for the message of the item
abbrev pub sends : ℕ → Item → Node → Effect
sends peer item n = sends_with (packet_of item) peer item n

-- an item that gives nothing up
abbrev pub GivesNothingUp : ℕ → Item → Type 0
GivesNothingUp peer item = (received : Counts) → amount_of received peer item ≡ 0

-- the names in the message of an item
abbrev pub names_sent : Item → List Name
names_sent item = unwrap_or (option_map (λ packet. packet.names) (packet_of item)) []

-- how many names an item counts at most
abbrev pub names_counted : Item → ℕ
names_counted (Granted serial token) = 1
names_counted item = length (names_sent item)

-- a name can be sent: an own object is stored, and one of a third node is lent under the next token
abbrev pub CanName : List Stored → ℕ → ℕ → Name → Type 0
CanName heap port token (Mine serial class) = IsSome (stored serial heap)
CanName heap port token (Yours serial) = Unit {0}
CanName heap port token (Lent o class number) = (number ≡ token) × (o.node ≢ port)

-- the next token once a name was sent
abbrev pub token_after : ℕ → Name → ℕ
token_after token (Lent o class number) = token + 1
token_after token name = token

-- names can be sent one after another
abbrev pub CanNameAll : List Stored → ℕ → ℕ → List Name → Type 0
CanNameAll heap port token [] = Unit {0}
CanNameAll heap port token (x ∷ xs) =
    CanName heap port token x × CanNameAll heap port (token_after token x) xs

-- all that an item names can be sent
abbrev pub CanSend : Node → Item → Type 0
CanSend n (Granted serial token) = IsSome (stored serial n.heap)
CanSend n item = CanNameAll n.heap n.port n.next_token (names_sent item)
