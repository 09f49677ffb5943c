-- What a node packs its messages from.
use Rattle.std.specs.Prelude.{List, None, Option, if◌then◌else◌, option_map, ℕ, ◌&&◌}
use Rattle.std.specs.Result.{result_ok}
use Rattle.do_base.specs.names.Names.{ObjectName}
use Rattle.do_packet.specs.{Copies.Placed, Packing.packed, Seen.{Seen, Sender, sender}}
use Rattle.do_class.specs.declared.packet.Packet.{Packet}
use Rattle.do_machine.specs.{declared.node.{Node.Node, Stored.Stored}, Context.Context}
use Rattle.do_machine.specs.{Context.class_seen, State.{is_known, is_open, is_own, stored}}

-- the own object of a name, where it is stored
abbrev own_stored : Node → ObjectName → Option Stored
own_stored n o = if is_own n o then stored o.serial n.heap else None

-- what a node sees as a packer: it may name a foreign object that it knows, over an open end
abbrev pub seen_by : Context → Seen
seen_by c = record {
  class_of = class_seen c;
  slots = λ o. option_map (λ x. x.slots) (own_stored c.node o);
  usable = λ o. is_known c.node o && is_open c.node o.node;
}

-- a node as a packer
abbrev pub packer : Context → Sender
packer c = sender c.table c.node.port (seen_by c)

-- a node's values as a message to a peer, if they are not too large
abbrev pub packed_for : Context → ℕ → List Placed → Option Packet
packed_for c to values = result_ok (packed (packer c) to c.node.next_token values)
