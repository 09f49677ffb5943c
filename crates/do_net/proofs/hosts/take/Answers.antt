use Rattle.do_net.proofs.hosts.take.Goals as goal
use Rattle.std.proofs.Common.{sym, ◌∙◌}
use Rattle.do_net.{specs.Hosts.hostings, proofs.TakeGoes.cannot_goes}

pub returns-else-can_take : goal.returns-else-can_take
returns-else-can_take g c table act rest =
    cannot_goes table act (hostings g.S.Hosted.seen c.args.hosts.now) c.args.port c.args.from
    c.args.wires.now.items c.shows_nothing.result (sym c.can_take.ensures ∙ c.if-can_take.false)
    rest c.shows_nothing.ensures
