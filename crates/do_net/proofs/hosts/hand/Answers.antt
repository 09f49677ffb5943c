use Rattle.do_net.proofs.hosts.hand.Goals as goal
use Rattle.std.proofs.Common.{sym, refl}
use Rattle.do_net.specs.Hosts.{hosting, hostings, HasFetched}
use Rattle.do_net.proofs.{EventSpelled.{hand_spelled, none_spelled}, FirstFound.each_found}
use Rattle.do_net.proofs.HandIsStep.{hand_result, none_goes, of_port}
use Rattle.do_ported.proofs.ByHalves.{rising_set}
use Rattle.do_net.proofs.HostPlaces.{place_found, place_none, place_set}

pub hand-requires : goal.hand-requires
hand-requires g c =
    let seen = g.S.Hosted.seen in
    let hosts = c.args.hosts.now in
    let x = c.at_mut.result.now in
    each_found HasFetched (of_port c.args.port) (hostings seen hosts) (hosting seen x) c.requires
    (place_found (hosting seen) c.args.port hosts.items c.in-Some.at x (sym c.in-Some.ensures.index)
    c.at_mut.ensures.value)

pub returns-in-Some : goal.returns-in-Some
returns-in-Some g c table act rest =
    let seen = g.S.Hosted.seen in
    let hosts = c.args.hosts.now in
    let x = c.at_mut.result.now in
    let z = c.hand.new.self in
    let first = sym c.in-Some.ensures.index in
    let found =
    place_found (hosting seen) c.args.port hosts.items c.in-Some.at x first
    c.at_mut.ensures.value in
    hand_result table act (hostings seen hosts) (hosting seen x) (hosting seen z) _ c.args.port
    c.args.input.now c.args.wires.now.items c.hand.new.wires.items c.hand.result rest found
    (place_set (hosting seen) c.args.port hosts.items _ c.in-Some.at x z first
    c.at_mut.ensures.value
    refl)
    c.hand.ensures.outcome c.hand.ensures.host c.hand.ensures.wires
    (hand_spelled table act (hostings seen hosts) (hosting seen x) c.args.port c.args.input.now
    c.hand.result rest found c.hand.ensures.spelled)

pub returns-in-None : goal.returns-in-None
returns-in-None g c table act rest =
    let seen = g.S.Hosted.seen in
    let hosts = c.args.hosts.now in
    let none = place_none (hosting seen) c.args.port hosts.items (sym c.in-None.ensures.index) in
    none_goes table act (hostings seen hosts) c.args.port c.args.input.now
    c.args.wires.now.items c.shows_nothing.result rest none c.shows_nothing.ensures
    (none_spelled table act (hostings seen hosts) c.args.port c.args.input.now none)

-- the sites stay by rising port
pub invariant_of-hosts : goal.invariant_of-hosts
invariant_of-hosts g c = record {
  rising = rising_set (λ h. h.port) c.args.hosts.now.items c.in-Some.at c.at_mut.result.now
      c.hand.new.self c.args.hosts.now.rising c.at_mut.ensures.value c.hand.ensures.port;
}
