use Rattle.do_agreement.proofs.laws.counts.senders_counts_stay_right.Goals as goal
use Rattle.do_agreement.proofs.counts.NamesCounted.{names_counted}

-- each name that is sent is counted
pub returns : goal.returns
returns c = names_counted
