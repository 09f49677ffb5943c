use Rattle.do_plan.proofs.planning.read_plan.Goals as goal
use Rattle.do_plan.specs.Plan.{plan_form, plan_at}
use Rattle.do_plan.proofs.{OneAnswer.{accepted, refused}, PlanExact.plans_read}

pub returns-clause-exact : goal.returns-clause-exact
returns-clause-exact c = c.lines_of.ensures plans_read

pub returns-clause-accepts : goal.returns-clause-accepts
returns-clause-accepts c =
    accepted plan_form plan_at plans_read c.args.bytes.now c.lines_of.result
    (c.lines_of.ensures plans_read)

pub returns-clause-refuses : goal.returns-clause-refuses
returns-clause-refuses c =
    refused plan_form plan_at plans_read c.args.bytes.now c.lines_of.result
    (c.lines_of.ensures plans_read)
