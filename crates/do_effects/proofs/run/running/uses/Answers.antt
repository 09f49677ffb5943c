use Rattle.do_effects.proofs.run.running.uses.Goals as goal
use Rattle.std.proofs.Common.{◌∙◌, ap, subst, sym}
use Rattle.do_part.specs.Names.{AreStored, values_of}
use Rattle.do_machine.specs.declared.node.Node.{Node}
use Rattle.do_network.specs.Own.{Own}
use Rattle.do_effects.specs.{Outs.uses_outs, Plans.top_changed}
use Rattle.do_effects.proofs.Outs.{outs_all, rest_stored}

-- the result leaves stored what the out values name
pub use_outs-requires-clause-stored : goal.use_outs-requires-clause-stored
use_outs-requires-clause-stored c =
    subst (λ (p : Own). AreStored p.node (values_of c.args.outs)) (sym c.goes.ensures.own)
    (rest_stored c.args.part.now.own.node c.args.value c.args.outs c.requires.stored)

-- the result goes first, and the out values behind it
pub returns : goal.returns
returns c =
    let p = c.args.part.now.own in
    c.use_outs.ensures
    ∙ ap (λ (q : Own). record q { node = top_changed (uses_outs 0 c.args.outs) q.node })
    c.goes.ensures.own
    ∙ ap (λ (m : Node). record p { node = m })
    (outs_all p.node c.in-Some.top.now c.args.value c.args.outs c.in-Some.ensures)
