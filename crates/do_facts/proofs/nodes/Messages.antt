-- What the messages of a node name.
use Rattle.std.specs.Prelude.{true, ℕ, ◌≡◌}
use Rattle.do_machine.specs.{declared.{item.Message.Message, node.Node.Node}, Objects.object_at}
use Rattle.do_facts.proofs.links.AreNamed.{NamedBy, is_usable}

-- a message to a peer is for an object that the node may use, and names what it may name
abbrev pub IsMessage : Node → ℕ → Message → Type 0
IsMessage n peer m =
    (is_usable n (object_at peer m.target) ≡ true) × NamedBy n peer m.packet.names
