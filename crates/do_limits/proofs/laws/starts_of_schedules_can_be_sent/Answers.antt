use Rattle.do_limits.proofs.laws.starts_of_schedules_can_be_sent.Goals as goal
use Rattle.do_limits.proofs.values.Starting.{lines_start}

pub returns : goal.returns
returns c = lines_start
