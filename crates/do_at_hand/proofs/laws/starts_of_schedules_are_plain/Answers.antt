use Rattle.do_at_hand.proofs.laws.starts_of_schedules_are_plain.Goals as goal
use Rattle.do_at_hand.proofs.Plain.{lines_plain}

pub returns : goal.returns
returns c = lines_plain
