use Rattle.do_spelled.proofs.packet.has_packet.Goals as goal
use Rattle.std.proofs.Common.{refl}
use Rattle.do_spelled.proofs.Packets.{packet_fits}

-- the lengths were tested, and then the items
pub returns-then-is_small : goal.returns-then-is_small
returns-then-is_small c =
    let both = packet_fits c.args.table.now c.args.from c.args.to c.args.packet.now in (
      λ t. both.0 (c.if-is_small.ensures.0 refl, c.have_items.ensures.0 t),
      λ fits. c.have_items.ensures.1 (both.1 fits).1,
    )
