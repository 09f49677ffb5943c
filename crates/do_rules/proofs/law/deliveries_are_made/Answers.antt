use Rattle.do_rules.proofs.law.deliveries_are_made.Goals as goal
use Rattle.do_rules.proofs.Deliveries.{delivery_is}

pub returns : goal.returns
returns c = delivery_is
