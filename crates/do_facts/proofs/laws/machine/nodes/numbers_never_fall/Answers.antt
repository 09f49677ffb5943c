use Rattle.do_facts.proofs.laws.machine.nodes.numbers_never_fall.Goals as goal
use Rattle.do_facts.proofs.machine.follows.Every.{grow_steps}

pub returns : goal.returns
returns c = grow_steps
