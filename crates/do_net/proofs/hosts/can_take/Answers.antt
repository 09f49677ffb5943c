use Rattle.do_net.proofs.hosts.can_take.Goals as goal
use Rattle.std.proofs.Common.{sym, ◌∙◌}
use Rattle.do_net.{specs.Hosts.{hosting, hostings}, proofs.HandIsStep.can_take_found}
use Rattle.do_net.proofs.{HandIsStep.can_take_none, HostPlaces.{place_found, place_none}}

pub returns-in-Some : goal.returns-in-Some
returns-in-Some g c =
    let seen = g.S.Hosted.seen in
    let hosts = c.args.hosts.now in
    let x = c.host_in.result.now in
    c.can_take.ensures
    ∙ can_take_found (hostings seen hosts) (hosting seen x) c.args.port c.args.from
    (place_found (hosting seen) c.args.port hosts.items c.in-Some.at x (sym c.in-Some.ensures.index)
    c.host_in.ensures)

pub returns-in-None : goal.returns-in-None
returns-in-None g c =
    let seen = g.S.Hosted.seen in
    let hosts = c.args.hosts.now in
    can_take_none (hostings seen hosts) c.args.port c.args.from
    (place_none (hosting seen) c.args.port hosts.items (sym c.in-None.ensures.index))
