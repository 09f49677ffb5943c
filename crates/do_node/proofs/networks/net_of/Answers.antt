use Rattle.do_node.proofs.networks.net_of.Goals as goal
use Rattle.do_node.proofs.OpenedNetwork.{if_first, share_alike}

-- all share one
pub new-requires-clause-alike : goal.new-requires-clause-alike
new-requires-clause-alike g c = share_alike c.args.parts.acts c.in_ok-makers.makers
    c.in_ok-makers.ensures.one

-- and the network is told by it
pub returns-clause-acts : goal.returns-clause-acts
returns-clause-acts g c = if_first (λ net. net.acts) c.args.parts.acts c.in_ok-makers.makers
    c.new.result c.in_ok-makers.ensures.one c.new.ensures.acts
