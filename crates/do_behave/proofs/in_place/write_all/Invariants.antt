use Rattle.do_behave.proofs.in_place.write_all.Given as goal
use Rattle.std.proofs.Common.{◌≡◌, length}
use Rattle.do_behave.specs.InPlace.{written}

abbrev pub invariant-loop-writes : goal.invariant-loop-writes
invariant-loop-writes l = written l.slots l.writes ≡ written l.fn.slots l.fn.writes

abbrev pub decreases-loop-writes : goal.decreases-loop-writes
decreases-loop-writes l = length l.writes
