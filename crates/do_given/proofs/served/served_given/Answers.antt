use Rattle.do_given.proofs.served.served_given.Goals as goal
use Rattle.std.proofs.Common.{◌∙◌, Err, Ok, Some}
use Rattle.do_plan.specs.Starts.{starts_form}
use Rattle.do_given.specs.Serving.{GivesSeat, RefusesSeat, SaysNoText}
use Rattle.do_given.proofs.BothGiven.{first_stops, given_is_read, refuses_behind, refuses_first}
use Rattle.do_given.proofs.{BothGiven.second_stops, FilesTold.no_err, Stopping.{give_any, must_be}}

-- where no node was read, the node stops it
pub returns-in-Err-clause-stopped : goal.returns-in-Err-clause-stopped
returns-in-Err-clause-stopped g c = first_stops
    (GivesSeat _ c.args.port c.args.world.now) (RefusesSeat _ c.args.port c.args.world.now)
    (SaysNoText starts_form _ c.args.starts.now) _ _ c.in-Err.status c.in-Err.ensures.stopped

-- where no node was read though files give one, a file was not read
pub returns-in-Err-clause-accepts : goal.returns-in-Err-clause-accepts
returns-in-Err-clause-accepts g c = λ files given is gives.
    give_any given.place (Ok given) c.in-Err.status
    (c.in-Err.ensures.accepts files given.place is gives.seat)

-- where no node was read, the status is that of the node
pub returns-in-Err-clause-refuses : goal.returns-in-Err-clause-refuses
returns-in-Err-clause-refuses g c = λ files status is none.
    refuses_first (GivesSeat (Some files) c.args.port c.args.world.now)
    (RefusesSeat (Some files) c.args.port c.args.world.now)
    (SaysNoText starts_form (Some files) c.args.starts.now) c.in-Err.status
    (λ st no. c.in-Err.ensures.refuses files st is no)
    (λ w gives. c.in-Err.ensures.accepts files w is gives) status none

-- where a node was read and no starts, the starts stop it
pub returns-in-Err-starts_given-clause-stopped : goal.returns-in-Err-starts_given-clause-stopped
returns-in-Err-starts_given-clause-stopped g c =
    let ended = c.in-Err-starts_given in
    second_stops (GivesSeat _ c.args.port c.args.world.now)
    (RefusesSeat _ c.args.port c.args.world.now) (SaysNoText starts_form _ c.args.starts.now)
    _ _ _ _ _ _ c.in-Ok.place ended.status c.in-Ok.ensures.later c.in-Ok.ensures.gives
    (rw c.in-Ok.ensures.same at ended.ensures.stopped)

-- where no starts were read though files give them, a file was not read
pub returns-in-Err-starts_given-clause-accepts : goal.returns-in-Err-starts_given-clause-accepts
returns-in-Err-starts_given-clause-accepts g c = λ files given is gives.
    let ended = c.in-Err-starts_given in
    give_any given.starts (Ok given) ended.status
    (ended.ensures.accepts files given.starts (c.in-Ok.ensures.same ∙ is) gives.says)

-- where a node was read and no starts, the status is that of the starts
pub returns-in-Err-starts_given-clause-refuses : goal.returns-in-Err-starts_given-clause-refuses
returns-in-Err-starts_given-clause-refuses g c = λ files status is none.
    let ended = c.in-Err-starts_given in
    refuses_behind (GivesSeat (Some files) c.args.port c.args.world.now)
    (RefusesSeat (Some files) c.args.port c.args.world.now)
    (SaysNoText starts_form (Some files) c.args.starts.now) c.in-Ok.place _ status
    (λ no. c.in-Ok.ensures.refuses files status is no)
    (λ no. must_be status ended.status
    (ended.ensures.refuses files status (c.in-Ok.ensures.same ∙ is) no)) none

-- where both were read, the words give them
pub returns-in-Ok-starts_given-clause-gives : goal.returns-in-Ok-starts_given-clause-gives
returns-in-Ok-starts_given-clause-gives g c =
    record {
      seat = c.in-Ok.ensures.gives;
      says = rw c.in-Ok.ensures.same at c.in-Ok-starts_given.ensures.says;
    }

-- where both were read, they are what files give
pub returns-in-Ok-starts_given-clause-accepts : goal.returns-in-Ok-starts_given-clause-accepts
returns-in-Ok-starts_given-clause-accepts g c = λ files given is gives.
    given_is_read (λ p ls. record { place = p; starts = ls }) c.in-Ok.place given.place
    c.in-Ok-starts_given.starts given.starts
    (c.in-Ok.ensures.accepts files given.place is gives.seat)
    (c.in-Ok-starts_given.ensures.accepts files given.starts (c.in-Ok.ensures.same ∙ is) gives.says)

-- where both were read, files refuse neither
pub returns-in-Ok-starts_given-clause-refuses : goal.returns-in-Ok-starts_given-clause-refuses
returns-in-Ok-starts_given-clause-refuses g c = λ files status is none.
    refuses_behind (GivesSeat (Some files) c.args.port c.args.world.now)
    (RefusesSeat (Some files) c.args.port c.args.world.now)
    (SaysNoText starts_form (Some files) c.args.starts.now) c.in-Ok.place _ status
    (λ no. c.in-Ok.ensures.refuses files status is no)
    (λ no. absurd (no_err c.in-Ok-starts_given.starts status
    (c.in-Ok-starts_given.ensures.refuses files status (c.in-Ok.ensures.same ∙ is) no))) none
