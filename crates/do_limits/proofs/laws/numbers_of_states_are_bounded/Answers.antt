use Rattle.do_limits.proofs.laws.numbers_of_states_are_bounded.Goals as goal
use Rattle.do_limits.proofs.{Selectors.has_methods, numbers.Reached.reached_numbers}

pub returns : goal.returns
returns c table act seats events world acts starts =
    reached_numbers table act (has_methods table world.classes world.signatures) acts seats events
    world.seated starts
