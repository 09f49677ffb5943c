-- Fewer names are left.
use Rattle.do_node.proofs.records.+records_given.Given as goal
use Rattle.std.proofs.Common.{length}

abbrev pub decreases-records_given : goal.decreases-records_given
decreases-records_given g l = length l.names.now
