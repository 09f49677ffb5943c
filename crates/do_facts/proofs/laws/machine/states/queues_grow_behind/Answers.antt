use Rattle.do_facts.proofs.laws.machine.states.queues_grow_behind.Goals as goal
use Rattle.do_facts.proofs.machine.Queues.{grows_behind}

pub returns : goal.returns
returns c port to e S waiting h = grows_behind port to e S.stations waiting h
