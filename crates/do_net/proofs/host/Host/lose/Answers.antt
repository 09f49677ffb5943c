use Rattle.do_net.proofs.host.Host.lose.Goals as goal
use Rattle.do_net.{specs.Hosts.hosting, proofs.HostPlaces.host_loses}

pub returns-clause-told : goal.returns-clause-told
returns-clause-told g c =
    host_loses c.lose.result (hosting g.S.Hosted.seen c.args.self.now) c.lose.new.self c.args.to
    c.args.after c.lose.ensures
