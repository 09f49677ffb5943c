use Rattle.do_facts.proofs.laws.calls.steps_are_moves_of_calls.Goals as goal
use Rattle.do_facts.proofs.calls.ReachedCalls.{step_moves}

pub returns : goal.returns
returns c = step_moves
