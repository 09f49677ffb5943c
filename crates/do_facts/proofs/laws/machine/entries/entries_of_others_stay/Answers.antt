use Rattle.do_facts.proofs.laws.machine.entries.entries_of_others_stay.Goals as goal
use Rattle.do_facts.proofs.machine.Entries.{entry_stays}

pub returns : goal.returns
returns c = entry_stays
