-- What the nodes up to here name was added.
use Rattle.do_lost.proofs.state.named.Given as goal
use Rattle.std.{proofs.Common.{◌≡◌, take}, specs.List.flat_map}
use Rattle.do_lost.specs.Named.{station_names}

abbrev pub invariant-loop-station : goal.invariant-loop-station
invariant-loop-station l =
    l.objects ≡ flat_map (station_names l.state) (take l.station-index l.station-items)
