use Rattle.do_guard.proofs.laws.denials_raise_their_rule.Goals as goal
use Rattle.do_guard.proofs.{Denied.raises_reached, Passed.raises}

pub returns-clause-schedules : goal.returns-clause-schedules
returns-clause-schedules c = raises_reached

pub returns-clause-states : goal.returns-clause-states
returns-clause-states c = λ b rules table S port n i below selector text runs.
    raises b rules table S port n i below runs selector text
