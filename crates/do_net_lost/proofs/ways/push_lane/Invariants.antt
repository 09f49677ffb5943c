-- What is left of the lane, read by the names read so far, names what is still to be added.
use Rattle.do_net_lost.proofs.ways.push_lane.Given as goal
use Rattle.std.proofs.Common.{◌≡◌, ◌++◌, drop, length}
use Rattle.do_net_named.specs.Waiting.{lane_names}
use Rattle.do_streams.specs.Reading.{AreKnown}

abbrev pub invariant-loop-place : goal.invariant-loop-place
invariant-loop-place l =
    AreKnown (length l.table) l.names
    × (l.fn.objects ++ lane_names l.table l.way.from l.way.to l.fn.names l.lane.waiting
    ≡ l.objects
    ++ lane_names l.table l.way.from l.way.to l.names (drop l.place l.lane.waiting))
