use Rattle.do_facts.proofs.laws.links.steps_are_moves.Goals as goal
use Rattle.do_facts.proofs.links.ReachedLinks.{step_moves}

pub returns : goal.returns
returns c = step_moves
