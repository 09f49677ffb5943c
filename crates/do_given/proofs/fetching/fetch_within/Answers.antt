use Rattle.do_given.proofs.fetching.fetch_within.Goals as goal
use Rattle.do_given.proofs.FilesTold.{fits_as_read, fits_not_long, long_not_read}

pub returns-in-Ok-clause-fits : goal.returns-in-Ok-clause-fits
returns-in-Ok-clause-fits g c = λ files bytes is file.
    fits_as_read _ files _ _ bytes _ c.in-Ok.ensures.cause.1 is file

pub returns-in-Ok-clause-long : goal.returns-in-Ok-clause-long
returns-in-Ok-clause-long g c = λ files status is long.
    absurd (long_not_read _ files _ _ _ status c.in-Ok.ensures.cause.1 is
    c.in-Ok.ensures.cause.0 long)

pub returns-in-Err-Long-clause-fits : goal.returns-in-Err-Long-clause-fits
returns-in-Err-Long-clause-fits g c = λ files bytes is file.
    let cause = rw c.in-Err-Long.field-0-is at c.in-Err-Long.ensures.cause in
    absurd (fits_not_long _ files _ bytes _ cause.2 is file)
