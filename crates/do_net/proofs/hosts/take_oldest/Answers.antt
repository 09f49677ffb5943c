use Rattle.do_net.proofs.hosts.take_oldest.Goals as goal
use Rattle.do_net.specs.{Hosts.hostings, Lanes.carried_of}
use Rattle.do_net.proofs.TakeGoes.{empty_goes, oldest_goes}

pub hand_kept-requires : goal.hand_kept-requires
hand_kept-requires g c = c.advance.ensures.fetched c.requires.fetched

pub returns-in-Some : goal.returns-in-Some
returns-in-Some g c table act rest =
    let seen = g.S.Hosted.seen in
    let went = c.in-Some.ensures.net table act rest in
    oldest_goes table act (hostings seen c.args.hosts.now) (hostings seen c.advance.new.hosts)
    (hostings seen c.hand_kept.new.hosts) c.args.port c.args.from (carried_of c.in-Some.kept)
    c.args.wires.now.items c.hand_kept.new.wires.items c.hand_kept.result c.requires.can went.0
    went.1.1 (c.hand_kept.ensures table act went.1.0)

pub returns-in-None : goal.returns-in-None
returns-in-None g c table act rest =
    let seen = g.S.Hosted.seen in
    let went = c.in-None.ensures.net table act rest in
    empty_goes table act (hostings seen c.args.hosts.now) (hostings seen c.advance.new.hosts)
    c.args.port c.args.from c.args.wires.now.items c.shows_nothing.result c.requires.can went.0
    went.1 rest c.shows_nothing.ensures
