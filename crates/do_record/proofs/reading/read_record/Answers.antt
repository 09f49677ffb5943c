use Rattle.do_record.proofs.reading.read_record.Goals as goal
use Rattle.do_record.proofs.records.RecordsGiven.{answer_accepts, answer_refuses, answer_tells}

pub returns-clause-exact : goal.returns-clause-exact
returns-clause-exact c = answer_tells c.args.bytes.now c.record_in.result c.record_in.ensures

pub returns-clause-accepts : goal.returns-clause-accepts
returns-clause-accepts c = answer_accepts c.args.bytes.now c.record_in.result c.record_in.ensures

pub returns-clause-refuses : goal.returns-clause-refuses
returns-clause-refuses c = answer_refuses c.args.bytes.now c.record_in.result c.record_in.ensures
