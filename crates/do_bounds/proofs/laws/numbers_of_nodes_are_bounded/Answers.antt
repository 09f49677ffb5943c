use Rattle.do_bounds.proofs.laws.numbers_of_nodes_are_bounded.Goals as goal
use Rattle.std.proofs.Common.{arith}
use Rattle.do_bounds.proofs.Inputs.{numbers_small, numbers_within}

-- by the number of inputs
pub returns-clause-bounded : goal.returns-clause-bounded
returns-clause-bounded c = numbers_within

-- and so below 2^62
pub returns-clause-small : goal.returns-clause-small
returns-clause-small c table act ports seat inputs t signed is keeps come few =
    numbers_small table act ports seat inputs t signed is keeps come (omega (arith, few))
