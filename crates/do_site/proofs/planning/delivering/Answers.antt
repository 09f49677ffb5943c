use Rattle.do_site.proofs.planning.delivering.Goals as goal
use Rattle.std.proofs.Common.{ap, ◌∙◌}
use Rattle.do_network.specs.Own.{site_context}
use Rattle.do_rules.specs.Delivery.{delivered}
use Rattle.do_site.proofs.PlansAlike.{delivered_is}

-- the delivery is that of the answer
pub returns-clause-effect : goal.returns-clause-effect
returns-clause-effect c = λ r turn.
    ap (delivered r) c.in-Ok.ensures
    ∙ delivered_is r (site_context c.args.ground.now.table.now c.args.ground.now.part.now.own)
    c.args.top.now turn.context turn.acts c.deliveries_are_made.ensures c.args.answer
