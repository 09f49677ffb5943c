use Rattle.do_facts.proofs.laws.steps.held_objects_are_referred_to.Goals as goal
use Rattle.do_facts.proofs.steps.HeldReferred.{opening_refers, reached_refers, step_refers}

pub returns : goal.returns
returns c = record { opening = opening_refers; steps = step_refers; schedules = reached_refers }
