use Rattle.do_net.proofs.net.Net.site.Goals as goal
use Rattle.std.proofs.Common.{◌∙◌, Some, ap, sym}
use Rattle.do_net.{specs.Hosts.hosting, proofs.Looked.{site_found, site_none, site_rests}}

-- the site that is found is that of the port
pub returns-in-Some-clause-part : goal.returns-in-Some-clause-part
returns-in-Some-clause-part g c =
    let seen = g.S.Hosted.seen in
    ap (λ s. Some (seen s).part) c.site.ensures
    ∙ sym (site_found (hosting seen) c.args.port c.args.self.now.hosts.items c.in-Some.at
    c.host_in.result.now (sym c.in-Some.ensures.index) c.host_in.ensures)

-- it has the classes that all have
pub returns-in-Some-clause-table : goal.returns-in-Some-clause-table
returns-in-Some-clause-table g c =
    let seen = g.S.Hosted.seen in
    λ act stands whole.
    ap (λ s. (seen s).table) c.site.ensures
    ∙ site_rests (hosting seen) c.args.port c.args.self.now.hosts.items c.in-Some.at
    c.host_in.result.now (sym c.in-Some.ensures.index) c.host_in.ensures c.args.self.now.table act
    (stands whole)

-- where there is none there is no such port
pub returns-in-None-clause-part : goal.returns-in-None-clause-part
returns-in-None-clause-part g c =
    let seen = g.S.Hosted.seen in
    sym (site_none (hosting seen) c.args.port c.args.self.now.hosts.items
    (sym c.in-None.ensures.index))
