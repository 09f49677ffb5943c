use Rattle.do_within.proofs.laws.frames_have_spellings.Goals as goal
use Rattle.std.proofs.Common.{arith}
use Rattle.do_within.proofs.schedules.{Lines.bounded_lines, Walk.from_opening}

-- event by event
pub returns-clause-events : goal.returns-clause-events
returns-clause-events c table act seats events world acts starts few =
    (from_opening table act seats world acts events starts (omega (arith, few))).0

-- and line by line
pub returns-clause-lines : goal.returns-clause-lines
returns-clause-lines c = bounded_lines
