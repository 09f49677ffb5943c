use Rattle.do_facts.proofs.laws.machine.entries.no_entry_over_a_closed_end.Goals as goal
use Rattle.do_facts.proofs.machine.Entries.{none_over_closed}

pub returns : goal.returns
returns c = none_over_closed
