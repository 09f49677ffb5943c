use Rattle.do_packet.proofs.packing.walk.Walk.values.Given as goal
use Rattle.std.{proofs.Common.{map, take}, specs.List.{flat_map, zip}}
use Rattle.do_packet.specs.{Copies.{copied_at, named_at}, Packing.part_at, Seen.sender}
use Rattle.do_packet.specs.walk.Walking.{Walked}

abbrev pub invariant-loop-i : goal.invariant-loop-i
invariant-loop-i g l =
    Walked
    (flat_map (copied_at (sender l.table l.from (g.V.View.sees l.view)))
    (take l.i (zip l.marks l.items)))
    (flat_map (named_at (sender l.table l.from (g.V.View.sees l.view)))
    (take l.i (zip l.marks l.items)))
    (λ C N.
    map (part_at (sender l.table l.from (g.V.View.sees l.view)) C N)
    (take l.i (zip l.marks l.items))) l.initial.self l.self l.parts
