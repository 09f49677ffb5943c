use Rattle.do_node.proofs.commands.leaks_given.Goals as goal
use Rattle.std.proofs.Common.{refl}
use Rattle.do_cli.specs.declared.command.Command.TheVariants.{Leaks}
use Rattle.do_given.proofs.{FilesTold.no_err, Stopping.{must_be, must_give}}
use Rattle.do_node.proofs.KeptWithin.{given_within, ran_tells, stopped_tells}
use Rattle.do_node.proofs.Obeying.{obeys_stopping, obeys_writing}

-- what was read is written
pub returns-in-Ok-clause-obeys : goal.returns-in-Ok-clause-obeys
returns-in-Ok-clause-obeys g c =
    obeys_writing _ (Leaks c.args.world.now c.args.schedule.now) _ _ _ _ _ _
    (record { given = c.in-Ok.given; gives = c.in-Ok.ensures.gives; is = refl })
    (λ files st is none. no_err c.in-Ok.given st (c.in-Ok.ensures.refuses files st is none))
    c.write_leaks.ensures.ok c.write_leaks.ensures.prefix c.write_leaks.ensures.stopped

-- what was not read stops the command
pub returns-in-Err-clause-obeys : goal.returns-in-Err-clause-obeys
returns-in-Err-clause-obeys g c =
    obeys_stopping _ (Leaks c.args.world.now c.args.schedule.now) _ _ _ c.in-Err.status
    c.in-Err.ensures.stopped
    (λ files st is none. must_be st c.in-Err.status (c.in-Err.ensures.refuses files st is none))
    (λ files text is writes. must_give writes.given c.in-Err.status
    (c.in-Err.ensures.accepts files writes.given is writes.gives))

-- what was read stays within what frames can spell
pub returns-in-Ok-clause-within : goal.returns-in-Ok-clause-within
returns-in-Ok-clause-within g c =
    ran_tells _ _ (given_within (g.H.Shelf.files c.args.shelf.now) c.args.world.now
    c.args.schedule.now c.in-Ok.given c.in-Ok.ensures.sound c.in-Ok.ensures.gives)
    c.write_leaks.result

-- where it was not read, nothing was written
pub returns-in-Err-clause-within : goal.returns-in-Err-clause-within
returns-in-Err-clause-within g c =
    stopped_tells _ _ _ _ (Leaks c.args.world.now c.args.schedule.now) c.in-Err.status
    c.in-Err.ensures.stopped refl
