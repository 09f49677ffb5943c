use Rattle.do_record.proofs.laws.read_inputs_are_good.Goals as goal
use Rattle.do_record.proofs.records.GoodRecords.{good_record}

pub returns : goal.returns
returns c = good_record
