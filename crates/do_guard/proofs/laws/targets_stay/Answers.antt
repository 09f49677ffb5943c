use Rattle.do_guard.proofs.laws.targets_stay.Goals as goal
use Rattle.do_guard.proofs.Targets.{targets_stay, targets_stay_reached}

pub returns-clause-schedules : goal.returns-clause-schedules
returns-clause-schedules c = targets_stay_reached

pub returns-clause-states : goal.returns-clause-states
returns-clause-states c = targets_stay
