use Rattle.do_facts.proofs.laws.machine.states.classes_stay.Goals as goal
use Rattle.do_facts.proofs.machine.ClassesStay.{stays}

pub returns : goal.returns
returns c port e S o class h = stays port e o class S.stations h
