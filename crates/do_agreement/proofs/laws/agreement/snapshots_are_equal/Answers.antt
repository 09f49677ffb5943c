use Rattle.do_agreement.proofs.laws.agreement.snapshots_are_equal.Goals as goal
use Rattle.do_agreement.proofs.agreement.SnapshotsAgree.{snapshots_same}

-- a check lists the same
pub returns : goal.returns
returns c = snapshots_same
