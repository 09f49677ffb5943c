use Rattle.do_site.proofs.work.Work.judged.Goals as goal
use Rattle.std.proofs.Common.{◌∙◌}
use Rattle.do_network.specs.Own.{site_context}
use Rattle.do_rules.specs.Ruling.{ruling}
use Rattle.do_site.proofs.PlansKeep.{if_ok}

-- the ruling is that of the rules on what the site is judged by
pub returns : goal.returns
returns c =
    if_ok c.ruling.result (λ r is. is
    ∙ (λ j. ruling (site_context (c.judged_by-ground.ensures.table j)
    (c.judged_by-ground.ensures.part j).own) c.args.from c.args.item.now)) c.ruling.ensures
