use Rattle.do_plan.proofs.starting.read_starts.Goals as goal
use Rattle.do_plan.specs.Starts.{starts_form, start_at}
use Rattle.do_plan.proofs.{OneAnswer.{accepted, refused}, StartsExact.starts_read}

pub returns-clause-exact : goal.returns-clause-exact
returns-clause-exact c = c.lines_of.ensures starts_read

pub returns-clause-accepts : goal.returns-clause-accepts
returns-clause-accepts c =
    accepted starts_form start_at starts_read c.args.bytes.now c.lines_of.result
    (c.lines_of.ensures starts_read)

pub returns-clause-refuses : goal.returns-clause-refuses
returns-clause-refuses c =
    refused starts_form start_at starts_read c.args.bytes.now c.lines_of.result
    (c.lines_of.ensures starts_read)
