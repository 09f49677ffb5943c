use Rattle.do_within.proofs.laws.networks_are_one_machine.Goals as goal
use Rattle.std.proofs.Common.{arith}
use Rattle.do_agreement.proofs.agreement.SchedulesAgree.{schedule_agrees}
use Rattle.do_agreement.proofs.texts.TextsAgree.{world_text}
use Rattle.do_within.proofs.schedules.{Lines.bounded_lines, Walk.from_opening}

-- each event comes to the same
pub returns-clause-events : goal.returns-clause-events
returns-clause-events c table act seats events world acts starts few =
    schedule_agrees table world.classes act seats events
    (from_opening table act seats world acts events starts (omega (arith, few))).0

-- and so does the text
pub returns-clause-text : goal.returns-clause-text
returns-clause-text c table act seats lines world acts good few =
    world_text table seats world act lines (bounded_lines table act seats lines world acts good few)
