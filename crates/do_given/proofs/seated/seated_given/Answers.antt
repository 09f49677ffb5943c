use Rattle.do_given.proofs.seated.seated_given.Goals as goal
use Rattle.std.{proofs.Common.{◌≡◌, ◌∙◌, None, Ok, Some, ap, sym}, specs.Option.option_copied}
use Rattle.do_given.specs.Serving.{seat_at}
use Rattle.do_given.proofs.SeatGiven.{lacking_gives, lacking_refused, seat_refused, seated_gives}
use Rattle.do_given.proofs.{SeatGiven.seated_not_refused, Stopping.give_any}

-- where no world was read though files give one, a file was not read
pub returns-in-Err-clause-accepts : goal.returns-in-Err-clause-accepts
returns-in-Err-clause-accepts g c = λ files given is gives.
    give_any given.world (Ok given) c.in-Err.status
    (c.in-Err.ensures.accepts files given.world is gives.gives)

-- where no world was read, the status is that of the world
pub returns-in-Err-clause-refuses : goal.returns-in-Err-clause-refuses
returns-in-Err-clause-refuses g c = λ files status is none.
    seat_refused files c.args.port c.args.word.now c.in-Err.status
    (λ st no. c.in-Err.ensures.refuses files st is no)
    (λ w gives. c.in-Err.ensures.accepts files w is gives) status none

-- a world that lacks the node gives none
pub returns-in_default-clause-accepts : goal.returns-in_default-clause-accepts
returns-in_default-clause-accepts g c = λ files given is gives.
    let lacks : seat_at c.in-Ok.world c.args.port ≡ None =
    sym c.seat_in.ensures ∙ ap option_copied c.in_default.is in
    absurd (lacking_gives files c.args.port c.args.word.now c.in-Ok.world
    (λ w gives_w. c.in-Ok.ensures.accepts files w is gives_w) lacks given gives)

-- where the world lacks the node, the status is that it is lacking
pub returns-in_default-clause-refuses : goal.returns-in_default-clause-refuses
returns-in_default-clause-refuses g c = λ files status is none.
    lacking_refused files c.args.port c.args.word.now c.in-Ok.world
    (λ w gives_w. c.in-Ok.ensures.accepts files w is gives_w) c.lacking.result
    (λ st no. c.in-Ok.ensures.refuses files st is no) c.lacking.ensures status none

-- where the world has the node, it is the one that files give
pub returns-clause-accepts : goal.returns-clause-accepts
returns-clause-accepts g c = λ files given is gives.
    let seated : seat_at c.in-Ok.world c.args.port ≡ Some c.in-Some.seat.now =
    sym c.seat_in.ensures ∙ ap option_copied c.in-Some.is in
    seated_gives files c.args.port c.args.word.now c.in-Ok.world
    (λ w gives_w. c.in-Ok.ensures.accepts files w is gives_w) c.in-Some.seat.now seated given gives

-- where the world has the node, files do not refuse it
pub returns-clause-refuses : goal.returns-clause-refuses
returns-clause-refuses g c = λ files status is none.
    let seated : seat_at c.in-Ok.world c.args.port ≡ Some c.in-Some.seat.now =
    sym c.seat_in.ensures ∙ ap option_copied c.in-Some.is in
    absurd (seated_not_refused files c.args.port c.args.word.now c.in-Ok.world
    (λ w gives_w. c.in-Ok.ensures.accepts files w is gives_w) c.in-Some.seat.now seated
    (λ st no. c.in-Ok.ensures.refuses files st is no) status none)
