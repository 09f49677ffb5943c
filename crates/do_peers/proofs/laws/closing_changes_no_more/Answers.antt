use Rattle.do_peers.proofs.laws.closing_changes_no_more.Goals as goal
use Rattle.do_peers.proofs.Closing.{close_alone, ended_alone, refused_alone}

pub returns-clause-refused : goal.returns-clause-refused
returns-clause-refused c = refused_alone

pub returns-clause-closed : goal.returns-clause-closed
returns-clause-closed c = close_alone

pub returns-clause-ended : goal.returns-clause-ended
returns-clause-ended c = ended_alone
