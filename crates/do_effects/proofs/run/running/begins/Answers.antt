use Rattle.do_effects.proofs.run.running.begins.Goals as goal
use Rattle.std.proofs.Common.{◌∙◌, ap, subst, sym}
use Rattle.do_part.specs.Names.{AreStored, values_of}
use Rattle.do_stack.specs.Uses.{invocation_values}
use Rattle.do_machine.specs.run.Fresh.{pushed}
use Rattle.do_network.specs.Own.{Own}

-- the top invocation waits, which leaves stored what the new one names
pub push-requires-clause-stored : goal.push-requires-clause-stored
push-requires-clause-stored c =
    subst (λ (p : Own). AreStored p.node (values_of (invocation_values c.args.invocation)))
    (sym c.stand.ensures.own) c.requires.stored

-- the new invocation stands above the one that waits
pub returns : goal.returns
returns c = c.push.ensures.own
    ∙ ap (λ (q : Own). record q { node = pushed c.args.invocation q.node }) c.stand.ensures.own
