use Rattle.do_net.proofs.net.Net.lane.Goals as goal
use Rattle.std.proofs.Common.{◌∙◌, sym}
use Rattle.do_net.{specs.Hosts.hosting, proofs.Looked.{lane_found, lane_none}}

-- the lane is that of the site that is found
pub returns-in-Some : goal.returns-in-Some
returns-in-Some g c =
    let seen = g.S.Hosted.seen in
    c.lane.ensures
    ∙ sym (lane_found (hosting seen) c.args.from c.args.self.now.hosts.items c.in-Some.at
    c.host_in.result.now (sym c.in-Some.ensures.index) c.host_in.ensures c.args.to)

-- where there is none there is no such port
pub returns-in-None : goal.returns-in-None
returns-in-None g c =
    let seen = g.S.Hosted.seen in
    sym (lane_none (hosting seen) c.args.from c.args.self.now.hosts.items c.args.to
    (sym c.in-None.ensures.index))
