use Rattle.do_facts.proofs.laws.machine.calls.answers_find_their_callers.Goals as goal
use Rattle.do_facts.proofs.machine.Answering.{finds_caller, finds_no_other, late_is_over}

pub returns : goal.returns
returns c = record { caller = finds_caller; others = finds_no_other; late = late_is_over }
