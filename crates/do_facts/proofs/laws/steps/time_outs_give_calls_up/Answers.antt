use Rattle.do_facts.proofs.laws.steps.time_outs_give_calls_up.Goals as goal
use Rattle.do_facts.proofs.steps.GivenUp.{enabled_waits, waiting_gives_up}

pub returns-clause-waiting : goal.returns-clause-waiting
returns-clause-waiting c table act S port n i below call peer what here waits =
    (waiting_gives_up table act S port n i below call peer what here waits).0

pub returns-clause-given_up : goal.returns-clause-given_up
returns-clause-given_up c table act S port n i below call peer what here waits =
    (waiting_gives_up table act S port n i below call peer what here waits).1

pub returns-clause-enabled : goal.returns-clause-enabled
returns-clause-enabled c = enabled_waits
