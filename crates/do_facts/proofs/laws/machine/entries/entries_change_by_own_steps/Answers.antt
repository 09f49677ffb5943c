use Rattle.do_facts.proofs.laws.machine.entries.entries_change_by_own_steps.Goals as goal
use Rattle.do_facts.proofs.machine.passing.Linked.{opening_queues, queues_stay}
use Rattle.do_facts.proofs.machine.passing.EntriesStay.{entries_stay}

pub returns : goal.returns
returns c = record { entries = entries_stay; opening = opening_queues; steps = queues_stay }
