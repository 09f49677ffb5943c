use Rattle.do_node.proofs.commands.write_woven.Goals as goal
use Rattle.std.proofs.Common.{refl}
use Rattle.do_cli.specs.declared.command.Command.TheVariants.{Weave}
use Rattle.do_given.proofs.{FilesTold.no_err, Stopping.{must_be, must_give}}
use Rattle.do_node.proofs.KeptWithin.{ran_tells, stopped_tells}
use Rattle.do_node.proofs.{Obeying.{obeys_stopping, obeys_writing}, OrdersKept.sink_altered}

pub returns-in-Ok-clause-obeys : goal.returns-in-Ok-clause-obeys
returns-in-Ok-clause-obeys g c =
    obeys_writing _ (Weave c.args.world.now c.args.files.now) _ _ _ _ c.in-Ok.text _
    c.in-Ok.ensures.says
    (λ files st is none. no_err c.in-Ok.text st (c.in-Ok.ensures.refuses files st is none))
    c.write_text.ensures.ok c.write_text.ensures.prefix c.write_text.ensures.stopped

pub returns-in-Err-clause-obeys : goal.returns-in-Err-clause-obeys
returns-in-Err-clause-obeys g c =
    obeys_stopping _ (Weave c.args.world.now c.args.files.now) _ _ _ c.in-Err.status
    c.in-Err.ensures.stopped
    (λ files st is none. must_be st c.in-Err.status (c.in-Err.ensures.refuses files st is none))
    (λ files text is writes. must_give text c.in-Err.status
    (c.in-Err.ensures.accepts files text is writes))

pub returns-in-Ok-clause-altered : goal.returns-in-Ok-clause-altered
returns-in-Ok-clause-altered g c =
    sink_altered _ c.args.world.now c.args.files.now _ _ c.write_text.ensures.stopped

pub returns-in-Err-clause-altered : goal.returns-in-Err-clause-altered
returns-in-Err-clause-altered g c = c.in-Err.ensures.altered

pub returns-in-Ok-clause-within : goal.returns-in-Ok-clause-within
returns-in-Ok-clause-within g c = ran_tells _ _ c.in-Ok.ensures.bounded c.write_text.result

pub returns-in-Err-clause-within : goal.returns-in-Err-clause-within
returns-in-Err-clause-within g c =
    stopped_tells _ _ _ _ (Weave c.args.world.now c.args.files.now) c.in-Err.status
    c.in-Err.ensures.stopped refl
