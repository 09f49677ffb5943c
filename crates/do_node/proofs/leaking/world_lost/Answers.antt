use Rattle.do_node.proofs.leaking.world_lost.Goals as goal
use Rattle.std.proofs.Common.{◌∙◌, ap}
use Rattle.do_native.specs.Acts.{native_act}
use Rattle.do_net.specs.Net.{network}
use Rattle.do_node.proofs.LeaksLast.{lost_last}

-- the text is that of the state that the lines lead to
pub returns : goal.returns
returns g c =
    let seen = g.S.Hosted.seen in
    let opened = c.in_ok-net.ensures in
    let passed = c.in_ok-pass.ensures in
    let was = c.in_ok-net.net in
    let is = c.pass.new.net in
    lost_last c.args.world was.table is.table (native_act was.acts) (native_act is.acts)
    (network seen was) (network seen is) c.args.lines _ opened.table
    (ap native_act opened.acts) (passed.table ∙ opened.table)
    (ap native_act (passed.acts ∙ opened.acts)) opened.one_machine passed.one_machine
    c.lost_text.ensures.one_machine
