use Rattle.do_guard.proofs.laws.checkers_send_to_their_target.Goals as goal
use Rattle.do_guard.proofs.Passed.{sends_only}

pub returns : goal.returns
returns c b rules table S port n i below runs =
    sends_only b rules table S port n i below runs c.queues_grow_behind.ensures
