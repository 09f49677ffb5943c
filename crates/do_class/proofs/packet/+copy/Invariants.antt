use Rattle.do_class.proofs.packet.+copy.Given as goal
use Rattle.std.proofs.Common.{◌≡◌, take}

abbrev pub invariant-copy_parts-loop-part : goal.invariant-copy_parts-loop-part
invariant-copy_parts-loop-part l = l.copies ≡ take l.part-index l.part-items
