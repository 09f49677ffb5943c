use Rattle.do_rules.proofs.state.+station_in.Given as goal
use Rattle.std.proofs.Common.{length}

abbrev pub decreases-station_in : goal.decreases-station_in
decreases-station_in l = length l.stations.now
