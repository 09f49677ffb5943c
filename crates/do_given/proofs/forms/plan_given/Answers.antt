use Rattle.do_given.proofs.forms.plan_given.Goals as goal
use Rattle.std.proofs.Common.{Ok}
use Rattle.do_plan.specs.{Form.IsText, Plan.plan_form}
use Rattle.do_given.specs.Serving.{IsNoText}
use Rattle.do_given.proofs.FilesTold.{none_answered, or_unread, text_answered}

pub returns-clause-refuses : goal.returns-clause-refuses
returns-clause-refuses g c = λ files status is none.
    none_answered (IsNoText plan_form) files _ _ _ _
    (λ bytes file. c.in_ok-bytes.ensures.fits files bytes is file)
    (λ st long. c.in_ok-bytes.ensures.long files st is long)
    (λ st refused. or_unread _ _
    (c.plan_of.ensures.refuses st (rw c.as_slice.ensures refused))) status none

pub returns-clause-accepts : goal.returns-clause-accepts
returns-clause-accepts g c = λ files lines is says.
    text_answered (IsText plan_form) files _ _ _ (λ ls. Ok ls) _
    (λ bytes file. c.in_ok-bytes.ensures.fits files bytes is file)
    (λ ls read. or_unread _ _
    (c.plan_of.ensures.accepts ls (rw c.as_slice.ensures read))) lines says
