use Rattle.do_recorded.proofs.laws.served_records_are_read.Goals as goal
use Rattle.do_recorded.proofs.Answer.{served_read}

pub returns : goal.returns
returns c = served_read
