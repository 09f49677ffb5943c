use Rattle.do_within.proofs.laws.amounts_are_bounded.Goals as goal
use Rattle.std.proofs.Common.{arith}
use Rattle.do_within.proofs.schedules.Walk.{from_opening}

-- what was received over a bounded schedule
pub returns : goal.returns
returns c table act seats events world acts starts few =
    (from_opening table act seats world acts events starts (omega (arith, few))).1.received
