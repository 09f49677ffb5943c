use Rattle.do_facts.proofs.laws.names.entered_objects_are_stored.Goals as goal
use Rattle.do_facts.proofs.links.EntriesStored.{entered_stored, reached_entries}
use Rattle.do_facts.specs.Reached.{reached}

pub returns : goal.returns
returns c table act seats events =
    entered_stored (reached table act seats events) (reached_entries table act seats events)
