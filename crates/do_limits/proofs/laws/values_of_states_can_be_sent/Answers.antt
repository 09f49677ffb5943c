use Rattle.do_limits.proofs.laws.values_of_states_can_be_sent.Goals as goal
use Rattle.do_limits.proofs.Selectors.{has_methods}
use Rattle.do_limits.proofs.states.Steps.{opening_sendable, reached_sendable, step_sendable}

pub returns-clause-opening : goal.returns-clause-opening
returns-clause-opening c table seats world = opening_sendable table seats world.seated

pub returns-clause-steps : goal.returns-clause-steps
returns-clause-steps c table act S event classes signed acts starts ok =
    step_sendable table act (has_methods table classes signed) acts S ok event starts

pub returns-clause-schedules : goal.returns-clause-schedules
returns-clause-schedules c table act seats events world acts starts =
    reached_sendable table act (has_methods table world.classes world.signatures) acts seats events
    world.seated starts
