use Rattle.do_facts.proofs.laws.machine.calls.given_up_calls_are_late.Goals as goal
use Rattle.do_facts.proofs.machine.Answering.{given_up}

pub returns : goal.returns
returns c = given_up
