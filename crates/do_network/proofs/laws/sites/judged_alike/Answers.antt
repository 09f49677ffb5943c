use Rattle.do_network.proofs.laws.sites.judged_alike.Goals as goal
use Rattle.do_network.proofs.JudgedAlike.{context_alike}

pub returns : goal.returns
returns c table S p sees = context_alike table S p sees
