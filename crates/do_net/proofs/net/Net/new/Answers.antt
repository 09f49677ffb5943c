use Rattle.do_net.proofs.net.Net.new.Goals as goal
use Rattle.std.proofs.Common.{subst, sym}
use Rattle.do_machine.specs.World.{opening}
use Rattle.do_net.{specs.OneMachine.StandsFor, proofs.OpeningNetwork.{alike_first, opens}}
use Rattle.do_net.proofs.{OpeningNetwork.opens_rest, StandsForStates.opening_stands}

-- the sites that open are those of what decides the acts of the first
pub returns-clause-stands : goal.returns-clause-stands
returns-clause-stands g c e =
    let act = g.S.Acts.Behaviour.act in
    opens_rest c.args.table (act c.in_ok-acts.acts) c.args.nodes.now _
    (c.in_ok-hosts.ensures (act c.in_ok-acts.acts)
    (alike_first act c.args.makers.now c.in_ok-acts.acts c.requires.alike c.in_ok-acts.ensures))

pub returns-clause-net : goal.returns-clause-net
returns-clause-net g c =
    let act = g.S.Acts.Behaviour.act in
    opens c.args.table (act c.in_ok-acts.acts) c.args.nodes.now _
    (c.in_ok-hosts.ensures (act c.in_ok-acts.acts)
    (alike_first act c.args.makers.now c.in_ok-acts.acts c.requires.alike c.in_ok-acts.ensures))

-- so they stand for the one machine's opening
pub returns-clause-one_machine : goal.returns-clause-one_machine
returns-clause-one_machine g c world =
    let act = g.S.Acts.Behaviour.act c.in_ok-acts.acts in
    let seats = c.args.nodes.now in
    subst (λ N. StandsFor c.args.table act N (opening c.args.table seats))
    (sym (returns-clause-net g c)) (opening_stands c.args.table act seats world)
