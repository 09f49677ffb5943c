use Rattle.do_objects.proofs.laws.invocations_can_act.Goals as goal
use Rattle.do_objects.proofs.Able.{opens_able, reached_able, still_can}

pub returns-clause-opening : goal.returns-clause-opening
returns-clause-opening c = opens_able

pub returns-clause-steps : goal.returns-clause-steps
returns-clause-steps c = still_can

pub returns-clause-schedules : goal.returns-clause-schedules
returns-clause-schedules c = reached_able
