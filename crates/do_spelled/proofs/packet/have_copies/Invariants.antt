use Rattle.do_spelled.proofs.packet.have_copies.Given as goal
use Rattle.std.{proofs.Common.take, specs.List.AllByRecursion}
use Rattle.do_coder.specs.Packets.{slot_counts, IsCopied}

abbrev pub invariant-loop-copied : goal.invariant-loop-copied
invariant-loop-copied l =
    AllByRecursion (IsCopied (slot_counts l.table) l.copies l.names) (take l.copied-index l.list)
