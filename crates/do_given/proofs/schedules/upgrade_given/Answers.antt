use Rattle.do_given.proofs.schedules.upgrade_given.Goals as goal
use Rattle.std.proofs.Common.{Ok}
use Rattle.do_sched.specs.declared.version.Version.TheVariants.{First}
use Rattle.do_given.specs.Reading.{IsNoSchedule, IsUpgraded}
use Rattle.do_given.proofs.FilesTold.{none_answered, or_unread, text_answered}

pub returns-clause-refuses : goal.returns-clause-refuses
returns-clause-refuses g c = λ files status is none.
    none_answered (IsNoSchedule First) files _ _ _ _
    (λ bytes file. c.in_ok-bytes.ensures.fits files bytes is file)
    (λ st long. c.in_ok-bytes.ensures.long files st is long)
    (λ st refused. or_unread _ _
    (c.upgraded.ensures.refuses st (rw c.as_slice.ensures refused))) status none

pub returns-clause-accepts : goal.returns-clause-accepts
returns-clause-accepts g c = λ files text is says.
    text_answered IsUpgraded files _ _ _ (λ t. Ok t) _
    (λ bytes file. c.in_ok-bytes.ensures.fits files bytes is file)
    (λ t read. or_unread _ _
    (c.upgraded.ensures.accepts t (rw c.as_slice.ensures read))) text says
