use Rattle.do_agreement.proofs.laws.counts.homes_counts_stay_right.Goals as goal
use Rattle.do_agreement.proofs.counts.ReturnsCounted.{returns_counted}

-- whatever a peer gives back and tells is taken off
pub returns : goal.returns
returns c = returns_counted
