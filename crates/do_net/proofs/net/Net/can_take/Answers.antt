use Rattle.do_net.proofs.net.Net.can_take.Goals as goal
use Rattle.std.proofs.Common.{◌∙◌}
use Rattle.do_net.{specs.Net.network, proofs.StandsForStates.takes_as_one}

pub returns-clause-one_machine : goal.returns-clause-one_machine
returns-clause-one_machine g c state stands =
    let net = c.args.self.now in
    c.can_take.ensures
    ∙ takes_as_one net.table (g.S.Acts.Behaviour.act net.acts) (network g.S.Hosted.seen net) state
    stands c.args.node c.args.from
