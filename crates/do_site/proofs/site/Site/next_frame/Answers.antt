use Rattle.do_site.proofs.site.Site.next_frame.Goals as goal
use Rattle.do_site.proofs.FetchedFrames.{fetched_spelled}

-- what is fetched has a spelling, by the classes of the site and sent from its port
pub returns-clause-spelled : goal.returns-clause-spelled
returns-clause-spelled g c =
    fetched_spelled g.B.Behaviour.act _ _ c.self.view_is c.next_frame.new.self
    c.get-table.result.now c.port-me.result c.get-table.ensures c.port-me.ensures
    c.next_frame.result c.next_frame.ensures.spelled
