use Rattle.do_coder.proofs.write.push_copies.Given as goal
use Rattle.std.{proofs.Common.{◌≡◌, ◌++◌, take}, specs.List.flat_map}
use Rattle.do_coder.specs.Packets.{copied_spelling}

abbrev pub invariant-loop-copied : goal.invariant-loop-copied
invariant-loop-copied l =
    l.out ≡ l.initial.out ++ flat_map copied_spelling (take l.copied-index l.copies)
