use Rattle.do_orders.proofs.laws.inputs_of_two_nodes_commute.Goals as goal
use Rattle.do_orders.proofs.InputsCommute.{inputs_commute}

pub returns : goal.returns
returns c = inputs_commute
