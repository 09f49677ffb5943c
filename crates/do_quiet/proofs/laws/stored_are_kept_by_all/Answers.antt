use Rattle.do_quiet.proofs.laws.stored_are_kept_by_all.Goals as goal
use Rattle.do_facts.specs.Reached.{reached}
use Rattle.do_quiet.proofs.{NodesKeep.reached_nodes_keep, QuietStates.quiet_lends_nothing}
use Rattle.do_quiet.proofs.StoredKept.{stored_kept_by_all}

pub returns : goal.returns
returns c table act seats events ends waits =
    stored_kept_by_all (reached table act seats events)
    (reached_nodes_keep table act seats events) waits
    (quiet_lends_nothing table seats act events ends waits)
