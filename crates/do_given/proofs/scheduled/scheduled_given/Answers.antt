use Rattle.do_given.proofs.scheduled.scheduled_given.Goals as goal
use Rattle.std.proofs.Common.{◌∙◌, Err, Ok, Some}
use Rattle.do_sched.specs.declared.version.Version.TheVariants.{Second}
use Rattle.do_given.specs.Reading.{GivesWorld, RefusesWorld, SaysNoLines}
use Rattle.do_given.proofs.BothGiven.{first_stops, given_is_read, refuses_behind, refuses_first}
use Rattle.do_given.proofs.{BothGiven.second_stops, FilesTold.no_err, Stopping.{give_any, must_be}}

-- where no world was read, the world stops it
pub returns-in-Err-clause-stopped : goal.returns-in-Err-clause-stopped
returns-in-Err-clause-stopped g c = first_stops
    (GivesWorld _ c.args.world.now) (RefusesWorld _ c.args.world.now)
    (SaysNoLines Second _ c.args.schedule.now) _ _ c.in-Err.status c.in-Err.ensures.stopped

-- where no world was read though files give one, a file was not read
pub returns-in-Err-clause-accepts : goal.returns-in-Err-clause-accepts
returns-in-Err-clause-accepts g c = λ files given is gives.
    give_any given.world (Ok given) c.in-Err.status
    (c.in-Err.ensures.accepts files given.world is gives.gives)

-- where no world was read, the status is that of the world
pub returns-in-Err-clause-refuses : goal.returns-in-Err-clause-refuses
returns-in-Err-clause-refuses g c = λ files status is none.
    refuses_first (GivesWorld (Some files) c.args.world.now)
    (RefusesWorld (Some files) c.args.world.now)
    (SaysNoLines Second (Some files) c.args.schedule.now) c.in-Err.status
    (λ st no. c.in-Err.ensures.refuses files st is no)
    (λ w gives. c.in-Err.ensures.accepts files w is gives) status none

-- where a world was read and no schedule, the schedule stops it
pub returns-in-Err-lines_given-clause-stopped : goal.returns-in-Err-lines_given-clause-stopped
returns-in-Err-lines_given-clause-stopped g c =
    let ended = c.in-Err-lines_given in
    second_stops (GivesWorld _ c.args.world.now) (RefusesWorld _ c.args.world.now)
    (SaysNoLines Second _ c.args.schedule.now) _ _ _ _ _ _ c.in-Ok.world ended.status
    c.in-Ok.ensures.later c.in-Ok.ensures.gives
    (rw c.in-Ok.ensures.same at ended.ensures.stopped)

-- where no schedule was read though files give one, a file was not read
pub returns-in-Err-lines_given-clause-accepts : goal.returns-in-Err-lines_given-clause-accepts
returns-in-Err-lines_given-clause-accepts g c = λ files given is gives.
    let ended = c.in-Err-lines_given in
    give_any given.lines (Ok given) ended.status
    (ended.ensures.accepts files given.lines (c.in-Ok.ensures.same ∙ is) gives.says)

-- where a world was read and no schedule, the status is that of the schedule
pub returns-in-Err-lines_given-clause-refuses : goal.returns-in-Err-lines_given-clause-refuses
returns-in-Err-lines_given-clause-refuses g c = λ files status is none.
    let ended = c.in-Err-lines_given in
    refuses_behind (GivesWorld (Some files) c.args.world.now)
    (RefusesWorld (Some files) c.args.world.now)
    (SaysNoLines Second (Some files) c.args.schedule.now) c.in-Ok.world _ status
    (λ no. c.in-Ok.ensures.refuses files status is no)
    (λ no. must_be status ended.status
    (ended.ensures.refuses files status (c.in-Ok.ensures.same ∙ is) no)) none

-- where both were read, the words give them
pub returns-in-Ok-lines_given-clause-gives : goal.returns-in-Ok-lines_given-clause-gives
returns-in-Ok-lines_given-clause-gives g c =
    record {
      gives = c.in-Ok.ensures.gives;
      says = rw c.in-Ok.ensures.same at c.in-Ok-lines_given.ensures.says;
    }

-- where both were read, they are what files give
pub returns-in-Ok-lines_given-clause-accepts : goal.returns-in-Ok-lines_given-clause-accepts
returns-in-Ok-lines_given-clause-accepts g c = λ files given is gives.
    given_is_read (λ w ls. record { world = w; lines = ls }) c.in-Ok.world given.world
    c.in-Ok-lines_given.lines given.lines
    (c.in-Ok.ensures.accepts files given.world is gives.gives)
    (c.in-Ok-lines_given.ensures.accepts files given.lines (c.in-Ok.ensures.same ∙ is) gives.says)

-- where both were read, files refuse neither
pub returns-in-Ok-lines_given-clause-refuses : goal.returns-in-Ok-lines_given-clause-refuses
returns-in-Ok-lines_given-clause-refuses g c = λ files status is none.
    refuses_behind (GivesWorld (Some files) c.args.world.now)
    (RefusesWorld (Some files) c.args.world.now)
    (SaysNoLines Second (Some files) c.args.schedule.now) c.in-Ok.world _ status
    (λ no. c.in-Ok.ensures.refuses files status is no)
    (λ no. absurd (no_err c.in-Ok-lines_given.lines status
    (c.in-Ok-lines_given.ensures.refuses files status (c.in-Ok.ensures.same ∙ is) no))) none
