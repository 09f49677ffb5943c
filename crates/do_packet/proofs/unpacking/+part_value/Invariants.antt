use Rattle.do_packet.proofs.unpacking.+part_value.Given as goal
use Rattle.std.proofs.Common.{◌≡◌, map, take}
use Rattle.do_packet.specs.Unpacking.{value_of}

abbrev pub invariant-part_values-loop-part : goal.invariant-part_values-loop-part
invariant-part_values-loop-part l =
    l.values ≡ map (value_of l.receipt l.named) (take l.part-index l.part-items)
