use Rattle.do_net_lost.proofs.text.lost.Goals as goal
use Rattle.std.proofs.Common.{◌∙◌, ap}
use Rattle.do_leaks.specs.Leaks.{leaks}
use Rattle.do_net.specs.Net.{network}
use Rattle.do_net_named.{specs.Named.net_named, proofs.LeaksAlike.leaks_alike}
use Rattle.do_network.specs.Snapshot.{net_snapshot}
use Rattle.do_streams.proofs.Placed.{if_ok}

-- the names are among those that the network names, and these among them
pub returns : goal.returns
returns g c =
    let N = network g.S.Hosted.seen c.args.net.now in
    if_ok c.leaks.result (λ list same. same
    ∙ ap (λ s. leaks s c.in_ok-names.names) c.requires.listed
    ∙ leaks_alike (net_snapshot N) c.in_ok-names.names (net_named c.args.net.now.table N)
    c.in_ok-names.ensures.names) c.leaks.ensures
