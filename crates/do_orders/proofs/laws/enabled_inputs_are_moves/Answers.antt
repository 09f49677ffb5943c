use Rattle.do_orders.proofs.laws.enabled_inputs_are_moves.Goals as goal
use Rattle.do_orders.proofs.{InputsMove.{input_moves, move_is_tried}, Reached.reached_stands}

pub returns-clause-moves : goal.returns-clause-moves
returns-clause-moves c = λ R seats S port input a there e.
    input_moves R S port (reached_stands R seats S there).led input a e

pub returns-clause-enabled : goal.returns-clause-enabled
returns-clause-enabled c = move_is_tried
