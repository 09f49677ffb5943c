use Rattle.do_network.proofs.laws.streams.streams_begin_with_the_greeting.Goals as goal
use Rattle.do_network.proofs.FirstGreets.{first_greets, later_goes}

pub returns-clause-first : goal.returns-clause-first
returns-clause-first c = first_greets

pub returns-clause-later : goal.returns-clause-later
returns-clause-later c = later_goes
