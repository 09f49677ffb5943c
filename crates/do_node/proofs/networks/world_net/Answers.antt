use Rattle.do_node.proofs.networks.world_net.Goals as goal
use Rattle.do_native.specs.Acts.{native_act}
use Rattle.do_given.specs.Parts.{behaviour_of}
use Rattle.do_net.specs.Net.{network}
use Rattle.do_node.proofs.OpenedNetwork.{has_node, stands_opened}

-- a world has a node
pub net_of-requires : goal.net_of-requires
net_of-requires g c = has_node c.args.world c.in_ok-parts.parts.nodes
    c.in_ok-parts.ensures.nodes c.requires.opens

-- the network stands for the machine's opening
pub returns-clause-one_machine : goal.returns-clause-one_machine
returns-clause-one_machine g c =
    let parts = c.in_ok-parts.ensures in
    stands_opened (network g.S.Hosted.seen) c.args.world (native_act (behaviour_of c.args.world))
    c.net_of.result c.requires.opens (rw (parts.table, parts.nodes) at c.net_of.ensures.net)
