use Rattle.do_served.proofs.plan.lab_given.Goals as goal
use Rattle.std.proofs.Common.{inr, refl}
use Rattle.do_plan.specs.Plan.{plan_form}
use Rattle.do_given.specs.Serving.{SaysNoText, SaysPlan}
use Rattle.do_output.proofs.ToldMore.{tells_none}
use Rattle.do_served.proofs.Comings.{comes_ended, comes_stopped}
use Rattle.do_served.proofs.Refused.{plan_ended, text_refused}

pub returns-in-Err-clause-runs : goal.returns-in-Err-clause-runs
returns-in-Err-clause-runs g c =
    comes_stopped (λ files. SaysPlan files c.args.plan.now)
    (λ files. SaysNoText plan_form files c.args.plan.now) _ _ _ _ c.in-Err.status
    (text_refused plan_form _ c.args.plan.now) (tells_none _, refl) c.in-Err.ensures.stopped
    (λ files st is no. c.in-Err.ensures.refuses files st is no)
    (λ files x is given. c.in-Err.ensures.accepts files x is given)

pub returns-in-Ok-clause-runs : goal.returns-in-Ok-clause-runs
returns-in-Ok-clause-runs g c =
    comes_ended (λ files. SaysPlan files c.args.plan.now)
    (λ files. SaysNoText plan_form files c.args.plan.now) _ _ _ _
    c.in-Ok.plan c.run_read.result c.in-Ok.ensures.says
    (λ st ended. plan_ended _ _ c.in-Ok.plan st ended) (inr c.run_read.ensures.ended)
    (λ files st is no. c.in-Ok.ensures.refuses files st is no)
    (λ files y is given. c.in-Ok.ensures.accepts files y is given)
