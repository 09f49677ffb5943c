use Rattle.do_orders.proofs.laws.moves_of_two_nodes_commute.Goals as goal
use Rattle.do_orders.proofs.Commuting.{done_past}

pub returns : goal.returns
returns c = λ m k S apart own there. done_past m k apart S own there
