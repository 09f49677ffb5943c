use Rattle.do_peers.proofs.laws.entries_change_at_home.Goals as goal
use Rattle.do_peers.proofs.Reached.{reached_entries}

pub returns : goal.returns
returns c = reached_entries
