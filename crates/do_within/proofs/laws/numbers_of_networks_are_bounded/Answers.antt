use Rattle.do_within.proofs.laws.numbers_of_networks_are_bounded.Goals as goal
use Rattle.std.proofs.Common.{arith}
use Rattle.do_within.proofs.schedules.Numbers.{numbers_reached, numbers_small}

-- by the number of events
pub returns-clause-bounded : goal.returns-clause-bounded
returns-clause-bounded c table act seats events world acts starts few =
    numbers_reached table act seats world acts events starts (omega (arith, few))

-- and so below 2^62
pub returns-clause-small : goal.returns-clause-small
returns-clause-small c table act seats events world acts starts few =
    numbers_small table act seats world acts events starts (omega (arith, few))
