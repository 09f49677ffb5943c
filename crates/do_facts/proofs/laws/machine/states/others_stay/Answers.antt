use Rattle.do_facts.proofs.laws.machine.states.others_stay.Goals as goal
use Rattle.do_facts.proofs.machine.Frame.{elsewhere}

pub returns : goal.returns
returns c = record {
  nodes = λ port other e S h. rw (elsewhere port other e S.stations h);
  queues = λ port from to e S h. rw (elsewhere port from e S.stations h);
}
