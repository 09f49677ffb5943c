use Rattle.do_at_hand.proofs.laws.named_objects_are_stored.Goals as goal
use Rattle.do_at_hand.proofs.NamesStored.{reached_at_hand, reached_stored}

pub returns-clause-hand : goal.returns-clause-hand
returns-clause-hand c table act seats events shows =
    reached_at_hand table act seats shows events

pub returns-clause-stored : goal.returns-clause-stored
returns-clause-stored c table act seats events shows =
    reached_stored table act seats shows events
