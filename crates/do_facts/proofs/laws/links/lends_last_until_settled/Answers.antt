use Rattle.do_facts.proofs.laws.links.lends_last_until_settled.Goals as goal
use Rattle.do_facts.proofs.links.ReachedLinks.{lends_last}

pub returns : goal.returns
returns c table act = lends_last table act
