use Rattle.do_packet.proofs.laws.objects_stand_once.Goals as goal
use Rattle.std.specs.{Prelude.[], List.flat_map}
use Rattle.do_packet.specs.Copies.{contents, copied_at, named_at}
use Rattle.do_packet.proofs.Once.{met_once, none_once}

pub returns-clause-copied : goal.returns-clause-copied
returns-clause-copied c s values copies =
    met_once [] (flat_map (copied_at s) (contents s values copies)) none_once

pub returns-clause-named : goal.returns-clause-named
returns-clause-named c s values copies =
    met_once [] (flat_map (named_at s) (contents s values copies)) none_once
