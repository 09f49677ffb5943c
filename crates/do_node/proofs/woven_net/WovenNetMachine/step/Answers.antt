use Rattle.do_node.proofs.woven_net.WovenNetMachine.step.Goals as goal
use Rattle.do_node.proofs.StepsOfNets.{steps_alike}

-- the network stands for some state
pub step-requires : goal.step-requires
step-requires g c = c.requires.2.whole

-- what it shows is what the machine shows
pub returns-clause-outcome : goal.returns-clause-outcome
returns-clause-outcome g c = λ R state is.
    (steps_alike g.S.Hosted.seen (g.S.Acts.Behaviour.act c.args.self.now.net.acts)
    c.args.self.now.net R state is c.args.event.now _ _ c.in_ok-outcome.ensures.one_machine).outcome
