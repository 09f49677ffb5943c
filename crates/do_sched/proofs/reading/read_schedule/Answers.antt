use Rattle.do_sched.proofs.reading.read_schedule.Goals as goal
use Rattle.do_sched.proofs.AnswerUnique.{accepted, refused}
use Rattle.do_sched.specs.declared.version.Version.TheVariants.{Second}

pub returns-clause-accepts : goal.returns-clause-accepts
returns-clause-accepts c = accepted Second c.args.bytes.now c.lines_of.result c.lines_of.ensures

pub returns-clause-refuses : goal.returns-clause-refuses
returns-clause-refuses c = refused Second c.args.bytes.now c.lines_of.result c.lines_of.ensures
