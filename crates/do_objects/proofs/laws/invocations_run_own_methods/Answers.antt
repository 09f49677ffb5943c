use Rattle.do_objects.proofs.laws.invocations_run_own_methods.Goals as goal
use Rattle.do_objects.proofs.Sound.{opens_sound, reached_sound, stays_sound}

pub returns-clause-opening : goal.returns-clause-opening
returns-clause-opening c = opens_sound

pub returns-clause-steps : goal.returns-clause-steps
returns-clause-steps c = stays_sound

pub returns-clause-schedules : goal.returns-clause-schedules
returns-clause-schedules c = reached_sound
