use Rattle.do_given.proofs.schedules.lines_given.Goals as goal
use Rattle.std.proofs.Common.{Ok}
use Rattle.do_sched.specs.{Schedule.IsScheduleOf, declared.version.Version.TheVariants.Second}
use Rattle.do_given.specs.Reading.{IsNoSchedule}
use Rattle.do_given.proofs.FilesTold.{none_answered, or_unread, text_answered}

pub returns-clause-refuses : goal.returns-clause-refuses
returns-clause-refuses g c = λ files status is none.
    none_answered (IsNoSchedule Second) files _ _ _ _
    (λ bytes file. c.in_ok-bytes.ensures.fits files bytes is file)
    (λ st long. c.in_ok-bytes.ensures.long files st is long)
    (λ st refused. or_unread _ _
    (c.lines_of.ensures.refuses st (rw c.as_slice.ensures refused))) status none

pub returns-clause-accepts : goal.returns-clause-accepts
returns-clause-accepts g c = λ files lines is says.
    text_answered (IsScheduleOf Second) files _ _ _ (λ ls. Ok ls) _
    (λ bytes file. c.in_ok-bytes.ensures.fits files bytes is file)
    (λ ls read. or_unread _ _
    (c.lines_of.ensures.accepts ls (rw c.as_slice.ensures read))) lines says
