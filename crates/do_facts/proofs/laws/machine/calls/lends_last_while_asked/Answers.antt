use Rattle.do_facts.proofs.laws.machine.calls.lends_last_while_asked.Goals as goal
use Rattle.do_facts.proofs.machine.Parting.{asks_settle_nothing, nothing_asked}

pub returns : goal.returns
returns c = record { asking = asks_settle_nothing; settled = nothing_asked }
