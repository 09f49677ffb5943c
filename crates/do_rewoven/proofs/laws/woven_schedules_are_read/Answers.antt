use Rattle.do_rewoven.proofs.laws.woven_schedules_are_read.Goals as goal
use Rattle.do_rewoven.proofs.{RecordsBehind.read_sound, WovenSchedule.woven_schedule}

pub returns : goal.returns
returns c R S seats files records lines read =
    woven_schedule R S records lines (read_sound seats files records read)
