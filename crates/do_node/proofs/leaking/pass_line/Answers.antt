use Rattle.do_node.proofs.leaking.pass_line.Goals as goal
use Rattle.do_net.{specs.Net.network, proofs.StandsForStates.line_as_one}

-- a line leads to a state for which the network stands
pub returns-clause-one_machine : goal.returns-clause-one_machine
returns-clause-one_machine g c = λ state stands.
    let seen = g.S.Hosted.seen in
    let was = c.args.net.now in
    let did = c.in_ok-step_line.ensures in
    rw (c.clear_wires.ensures.hosts, did.net)
    (line_as_one was.table (g.S.Acts.Behaviour.act was.acts) (network seen was) state stands
    c.args.line did.spelled)
