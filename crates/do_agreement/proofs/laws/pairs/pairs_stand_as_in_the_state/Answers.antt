use Rattle.do_agreement.proofs.laws.pairs.pairs_stand_as_in_the_state.Goals as goal
use Rattle.do_agreement.proofs.pairs.CallsOfPairs.{one_call}
use Rattle.do_agreement.proofs.pairs.LendsOfPairs.{one_ask, one_lend, silent}

-- each lend
pub returns-clause-lends : goal.returns-clause-lends
returns-clause-lends c = one_lend

-- each ask
pub returns-clause-asks : goal.returns-clause-asks
returns-clause-asks c = one_ask

-- no end is told over an open end
pub returns-clause-silent : goal.returns-clause-silent
returns-clause-silent c = silent

-- each call
pub returns-clause-calls : goal.returns-clause-calls
returns-clause-calls c = one_call
