use Rattle.do_net.proofs.net.Net.ports.Goals as goal
use Rattle.std.proofs.{Common.{◌≡◌, ◌∙◌, ap, map, take}, lemmas.List.take_all}
use Rattle.do_net.{specs.Hosts.hosting, proofs.Looked.ports_listed}

pub returns : goal.returns
returns g c =
    let items = c.as_slice-host-items.result.now in
    let whole : take c.loop-host.host-index items ≡ items =
    take_all c.loop-host.host-index items c.loop-host-test.false in
    c.loop-host.invariant ∙ ap (map (λ h. h.port)) whole
    ∙ ap (map (λ h. h.port)) c.as_slice-host-items.ensures
    ∙ ports_listed (hosting g.S.Hosted.seen) c.args.self.now.hosts.items
