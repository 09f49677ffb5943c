use Rattle.do_cycles.proofs.laws.quiet_states_are_settled.Goals as goal
use Rattle.do_quiet.proofs.EndsStayOpen.{stay_open}
use Rattle.do_cycles.proofs.QuietSettled.{reached_settled}

pub returns-clause-open : goal.returns-clause-open
returns-clause-open c = reached_settled

pub returns-clause-unbroken : goal.returns-clause-unbroken
returns-clause-unbroken c table act seats events unbroken =
    reached_settled table act seats events (stay_open table seats act events unbroken)
