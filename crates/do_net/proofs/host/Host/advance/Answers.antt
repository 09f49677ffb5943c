use Rattle.do_net.proofs.host.Host.advance.Goals as goal
use Rattle.do_net.{specs.Hosts.hosting, proofs.HostPlaces.host_advances}

pub returns-clause-kept : goal.returns-clause-kept
returns-clause-kept g c =
    host_advances (hosting g.S.Hosted.seen c.args.self.now) c.advance.new.self c.args.to
    c.advance.result c.advance.ensures
