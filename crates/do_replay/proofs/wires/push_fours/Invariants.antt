-- The digits of the bytes that are left come behind those that were added.
use Rattle.do_replay.proofs.wires.push_fours.Given as goal
use Rattle.std.{proofs.Common.{◌≡◌, ◌++◌, length}, specs.List.flat_map}
use Rattle.do_network.specs.Wired.{hex_byte}

abbrev pub invariant-loop-rest : goal.invariant-loop-rest
invariant-loop-rest l = record {
  digits : l.out ++ flat_map hex_byte l.rest ≡ l.fn.out ++ flat_map hex_byte l.bytes;
}

abbrev pub decreases-loop-rest : goal.decreases-loop-rest
decreases-loop-rest l = length l.rest
