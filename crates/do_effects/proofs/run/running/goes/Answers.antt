use Rattle.do_effects.proofs.run.running.goes.Goals as goal
use Rattle.std.proofs.Common.{◌∙◌, ap}
use Rattle.do_machine.specs.run.Fresh.{with_stack}
use Rattle.do_effects.proofs.Turned.{local_changed}

-- a running invocation goes on with a value
pub returns-clause-own : goal.returns-clause-own
returns-clause-own c =
    let p = c.args.part.now.own in
    c.set_local.ensures.own
    ∙ ap (λ l. record p { node = with_stack l p.node })
    (local_changed p.node.stack c.args.into c.args.pc c.args.value c.requires.runs)
