use Rattle.do_net.proofs.hosts.advance.Goals as goal
use Rattle.std.proofs.Common.{sym, refl}
use Rattle.do_net.specs.Hosts.{hosting, hostings}
use Rattle.do_net.proofs.HandIsStep.{advance_fetched, net_advances, net_missing}
use Rattle.do_ported.proofs.ByHalves.{rising_set}
use Rattle.do_net.proofs.HostPlaces.{place_found, place_none, place_set}

pub returns-in-Some-clause-fetched : goal.returns-in-Some-clause-fetched
returns-in-Some-clause-fetched g c fetched =
    let seen = g.S.Hosted.seen in
    let hosts = c.args.hosts.now in
    let x = c.at_mut.result.now in
    let z = c.advance.new.self in
    let first = sym c.in-Some.ensures.index in
    advance_fetched (hostings seen hosts) _ (hosting seen x) (hosting seen z) c.args.from c.args.to
    c.advance.result
    (place_found (hosting seen) c.args.from hosts.items c.in-Some.at x first c.at_mut.ensures.value)
    c.advance.ensures.kept
    (place_set (hosting seen) c.args.from hosts.items _ c.in-Some.at x z first
    c.at_mut.ensures.value
    refl) fetched

pub returns-in-Some-clause-net : goal.returns-in-Some-clause-net
returns-in-Some-clause-net g c table act rest =
    let seen = g.S.Hosted.seen in
    let hosts = c.args.hosts.now in
    let x = c.at_mut.result.now in
    let z = c.advance.new.self in
    let first = sym c.in-Some.ensures.index in
    net_advances table act (hostings seen hosts) _ (hosting seen x) (hosting seen z) c.args.from
    c.args.to c.advance.result rest
    (place_found (hosting seen) c.args.from hosts.items c.in-Some.at x first c.at_mut.ensures.value)
    c.advance.ensures.kept
    (place_set (hosting seen) c.args.from hosts.items _ c.in-Some.at x z first
    c.at_mut.ensures.value
    refl)

pub returns-in-None-clause-net : goal.returns-in-None-clause-net
returns-in-None-clause-net g c table act rest =
    let seen = g.S.Hosted.seen in
    let hosts = c.args.hosts.now in
    net_missing table act (hostings seen hosts) c.args.from c.args.to
    (place_none (hosting seen) c.args.from hosts.items (sym c.in-None.ensures.index))

-- the sites stay by rising port
pub invariant_of-hosts : goal.invariant_of-hosts
invariant_of-hosts g c = record {
  rising = rising_set (λ h. h.port) c.args.hosts.now.items c.in-Some.at c.at_mut.result.now
      c.advance.new.self c.args.hosts.now.rising c.at_mut.ensures.value c.advance.ensures.port;
}
