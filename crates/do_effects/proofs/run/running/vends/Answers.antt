use Rattle.do_effects.proofs.run.running.vends.Goals as goal
use Rattle.std.proofs.Common.{◌∙◌, ap}
use Rattle.do_network.specs.Own.{Own}

-- the root is set once the top invocation goes on
pub returns : goal.returns
returns c = c.set_root.ensures.own
    ∙ ap (λ (q : Own). record q { node = record q.node { root = c.args.root } })
    c.goes_to.ensures.own
