use Rattle.do_packet.proofs.unpacking.made.Given as goal
use Rattle.std.proofs.Common.{◌≡◌, map, take}
use Rattle.do_packet.specs.Unpacking.{made_of}

abbrev pub invariant-loop-copied : goal.invariant-loop-copied
invariant-loop-copied l =
    l.objects ≡ map (made_of l.receipt l.named) (take l.copied-index l.copied-items)
