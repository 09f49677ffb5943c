use Rattle.do_packet.proofs.unpacking.name_meanings.Given as goal
use Rattle.std.{proofs.Common.{◌≡◌, map, take}, specs.List.zip}
use Rattle.do_packet.specs.Unpacking.{looked_value}

abbrev pub invariant-loop-i : goal.invariant-loop-i
invariant-loop-i l =
    l.list ≡ map (looked_value l.receipt) (take l.i (zip l.items (zip l.entered l.homes)))
