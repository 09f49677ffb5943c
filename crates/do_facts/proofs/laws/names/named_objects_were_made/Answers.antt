use Rattle.do_facts.proofs.laws.names.named_objects_were_made.Goals as goal
use Rattle.do_facts.proofs.links.ReachedNames.{reached_made}

pub returns : goal.returns
returns c = reached_made
