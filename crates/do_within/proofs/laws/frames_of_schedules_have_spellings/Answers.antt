use Rattle.do_within.proofs.laws.frames_of_schedules_have_spellings.Goals as goal
use Rattle.do_within.proofs.schedules.Few.{few_events, schedules_spelled}

-- few events
pub returns-clause-few : goal.returns-clause-few
returns-clause-few c = few_events

-- so all frames are spelled
pub returns-clause-spelled : goal.returns-clause-spelled
returns-clause-spelled c = schedules_spelled
