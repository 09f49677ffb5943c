use Rattle.do_make.specs.Text as made
use Rattle.do_node.proofs.making.summary_text.Goals as goal
use Rattle.std.proofs.Common.{◌++◌, ◌∙◌, ap}
use Rattle.do_node.proofs.OpenedNetwork.{blocks_as_one, has_node, summed_world}

-- a world has a node
pub net_of-requires : goal.net_of-requires
net_of-requires g c = has_node c.args.world c.in_ok-parts.parts.nodes
    c.in_ok-parts.ensures.nodes c.requires.opens

-- the summary is that of the network that opened
pub returns-clause-text : goal.returns-clause-text
returns-clause-text g c =
    let parts = c.in_ok-parts.ensures in
    let opened = c.in_ok-net.ensures in
    c.in_ok-push_summary.ensures
    ∙ ap (λ t. t ++ made.summary_text c.in_ok-sum.sum) c.new-text.ensures
    ∙ ap made.summary_text c.in_ok-sum.ensures.sum
    ∙ summed_world c.args.world _ _ _ c.args.lines (opened.table ∙ parts.table)
    (opened.acts ∙ parts.acts) (rw (parts.table, parts.nodes) at opened.net)

-- its lines come to what they come to in one machine
pub returns-clause-one_machine : goal.returns-clause-one_machine
returns-clause-one_machine g c =
    let parts = c.in_ok-parts.ensures in
    let opened = c.in_ok-net.ensures in
    blocks_as_one c.args.world _ _ _ c.args.lines (opened.table ∙ parts.table)
    (opened.acts ∙ parts.acts) (rw (parts.table, parts.nodes) at opened.net) c.requires.opens
    c.in_ok-sum.ensures.one_machine
