use Rattle.do_exchanged.proofs.laws.exchanged_records_can_be_done.Goals as goal
use Rattle.do_exchanged.proofs.Exchange.{exchanged_done}

pub returns : goal.returns
returns c table act seats runs world acts x = exchanged_done table act seats world acts runs x
