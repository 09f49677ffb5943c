use Rattle.do_packet.proofs.packing.walk.Walk.+part.Given as goal
use Rattle.std.{proofs.Common.{map, take}, specs.List.flat_map}
use Rattle.do_packet.specs.{Met.{copied_in, named_in}, Parts.part_of, walk.Walking.Walked}

abbrev pub invariant-parts-loop-value : goal.invariant-parts-loop-value
invariant-parts-loop-value g l =
    Walked
    (flat_map (copied_in (g.V.View.sees l.view) l.from l.copy) (take l.value-index l.value-items))
    (flat_map (named_in (g.V.View.sees l.view) l.from l.copy) (take l.value-index l.value-items))
    (λ C N.
    map (part_of (g.V.View.sees l.view) l.from l.copy C N) (take l.value-index l.value-items))
    l.initial.self l.self l.parts
