use Rattle.do_agreement.proofs.laws.agreement.schedules_come_to_the_same.Goals as goal
use Rattle.do_agreement.proofs.agreement.SchedulesAgree.{schedule_agrees}

-- events one after another come to the same
pub returns : goal.returns
returns c = schedule_agrees
