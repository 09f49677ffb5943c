use Rattle.do_net.proofs.hosts.snapshot.Goals as goal
use Rattle.std.proofs.{Common.{◌≡◌, ap, map, take, ◌∙◌}, lemmas.List.take_all}
use Rattle.do_network.specs.Snapshot.{part_line}
use Rattle.do_net.{specs.Hosts.hosting, proofs.ListedPlaces.listed}

pub returns : goal.returns
returns g c =
    let seen = g.S.Hosted.seen in
    let items = c.as_slice-host-items.result.now in
    let whole : take c.loop-host.host-index items ≡ items =
    take_all c.loop-host.host-index items c.loop-host-test.false in
    ap (λ ns. record { nodes = ns })
    (c.loop-host.invariant ∙ ap (map (λ h. part_line (seen h.site).part)) whole
    ∙ ap (map (λ h. part_line (seen h.site).part)) c.as_slice-host-items.ensures
    ∙ listed (hosting seen) c.args.hosts.now.items)
