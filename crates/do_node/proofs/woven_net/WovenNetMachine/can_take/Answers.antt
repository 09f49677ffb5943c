use Rattle.do_node.proofs.woven_net.WovenNetMachine.can_take.Goals as goal
use Rattle.do_node.proofs.StepsOfNets.{takes_alike}

-- a node can take the same in the machine
pub returns : goal.returns
returns g c = λ R state is.
    takes_alike g.S.Hosted.seen (g.S.Acts.Behaviour.act c.args.self.now.net.acts)
    c.args.self.now.net R state is c.args.node c.args.from c.can_take.result
    c.can_take.ensures.one_machine
