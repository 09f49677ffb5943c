use Rattle.do_net.proofs.hosts.lose.Goals as goal
use Rattle.std.proofs.Common.{◌≡◌, true, rules, sym, refl}
use Rattle.do_net.specs.Hosts.{hosting, hostings, net_is_open, net_of}
use Rattle.do_net.proofs.LoseIsStep.{lost_goes, none_lost}
use Rattle.do_ported.proofs.ByHalves.{rising_set}
use Rattle.do_net.proofs.HostPlaces.{place_found, place_none, place_set}

pub returns-in_default : goal.returns-in_default
returns-in_default g c table act wires rest =
    let seen = g.S.Hosted.seen in
    let hosts = c.args.hosts.now in
    let opened : net_is_open (net_of (hostings seen hosts)) c.args.to c.args.from ≡ true =
    search rules in
    none_lost table act (hostings seen hosts) c.args.from c.args.to c.args.after wires
    c.shows_nothing-in_default.result opened
    (place_none (hosting seen) c.args.from hosts.items (search rules))
    c.shows_nothing-in_default.ensures rest

pub returns : goal.returns
returns g c table act wires rest =
    let seen = g.S.Hosted.seen in
    let hosts = c.args.hosts.now in
    let x = c.at_mut.result.now in
    let z = c.lose.new.self in
    let first = sym c.in-Some.ensures.index in
    let opened : net_is_open (net_of (hostings seen hosts)) c.args.to c.args.from ≡ true =
    search rules in
    lost_goes table act (hostings seen hosts) _ (hosting seen x) (hosting seen z) c.args.from
    c.args.to c.args.after c.in_ok-told.told wires c.shows_nothing-2.result opened
    (place_found (hosting seen) c.args.from hosts.items c.in-Some.at x first c.at_mut.ensures.value)
    c.in_ok-told.ensures.told
    (place_set (hosting seen) c.args.from hosts.items _ c.in-Some.at x z first
    c.at_mut.ensures.value
    refl)
    c.shows_nothing-2.ensures rest

-- the sites stay by rising port
pub invariant_of-hosts : goal.invariant_of-hosts
invariant_of-hosts g c = record {
  rising = rising_set (λ h. h.port) c.args.hosts.now.items c.in-Some.at c.at_mut.result.now
      c.lose.new.self c.args.hosts.now.rising c.at_mut.ensures.value c.lose.ensures.port;
}
