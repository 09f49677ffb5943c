use Rattle.do_facts.proofs.laws.machine.nodes.late_stays_empty.Goals as goal
use Rattle.do_facts.proofs.machine.follows.Every.{follow_steps}

pub returns : goal.returns
returns c = follow_steps
